use mathlib.Core.Path.{refl}
use native.Mathlib.Omega.{arith}
use Rattle.grafting.proofs.Laws.Grafted.{column-none, column-more, column-all}
use Rattle.join_file.proofs.moved_starts.Goals as goal

pub loop-i-init : goal.loop-i-init
loop-i-init c = column-none _

pub bounds-all-i : goal.bounds-all-i
bounds-all-i c = omega (arith, c.requires.few, c.loop-i-test.true)

pub overflow_add-all : goal.overflow_add-all
overflow_add-all c = omega (arith, c.requires.low, c.requires.each_low c.loop-i.i c.loop-i-test.true)

pub loop-i-preserved : goal.loop-i-preserved
loop-i-preserved c = column-more _ _ _ _ c.loop-i.invariant refl

pub returns : goal.returns
returns c = column-all _ _ _ _ c.loop-i.invariant (omega arith)
