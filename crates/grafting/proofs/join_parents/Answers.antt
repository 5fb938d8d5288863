use native.Mathlib.Omega.{arith}
use Rattle.grafting.proofs.Laws.Grafted.{column-none, column-more, column-all, hangs_at}
use Rattle.grafting.proofs.join_parents.Goals as goal

pub loop-i-init : goal.loop-i-init
loop-i-init c = column-none _

pub pick_parent-requires : goal.pick_parent-requires
pick_parent-requires c = hangs_at _ _ _ _ _ c.requires c.loop-i-test.true

pub loop-i-preserved : goal.loop-i-preserved
loop-i-preserved c = column-more _ _ _ _ c.loop-i.invariant c.pick_parent.ensures

pub returns : goal.returns
returns c = column-all _ _ _ _ c.loop-i.invariant (omega arith)
