use mathlib.Core.Path.{refl}
use Rattle.sweeping.proofs.Passing.{ordering_starts, ordering_turns, ordering_ends}
use Rattle.sweeping.proofs.order_of.Goals as goal

pub loop-c-init : goal.loop-c-init
loop-c-init c = ordering_starts _ _ c.requires

pub loop-c-preserved : goal.loop-c-preserved
loop-c-preserved c = ordering_turns _ _ c.requires c.loop-c.invariant c.loop-c-test.true c.see-w.ensures refl

pub returns : goal.returns
returns c = ordering_ends _ _ c.requires c.loop-c.invariant c.loop-c-test.false
