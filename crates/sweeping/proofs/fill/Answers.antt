use Rattle.sweeping.proofs.Passing.{not_both}
use Rattle.sweeping.proofs.Filling.{filling-turns, filling-stops, filling-ends}
use mathlib.Core.Path.{refl}
use Rattle.sweeping.proofs.fill.Goals as goal

pub returns-then-x-rows : goal.returns-then-x-rows
returns-then-x-rows c = (λ e. not_both e refl, λ e. filling-stops c.loop-y.invariant c.loop-y-test.true refl c.if-x-rows.true)

pub loop-y-preserved : goal.loop-y-preserved
loop-y-preserved c = filling-turns c.loop-y.invariant c.requires.0 c.loop-y-test.true refl c.if-x-rows.false

pub returns : goal.returns
returns c = (λ e. filling-ends c.loop-y.invariant c.loop-y-test.false, λ e. not_both refl e)
