use mathlib.Core.Path.{refl}
use Rattle.sweeping.proofs.Passing.{gathering_starts, gathering_turns, gathering_ends}
use Rattle.sweeping.proofs.gather.Goals as goal

pub loop-c-init : goal.loop-c-init
loop-c-init c = gathering_starts _ _ _ c.requires.0 c.requires.1

pub loop-c-preserved : goal.loop-c-preserved
loop-c-preserved c = gathering_turns _ _ c.requires.0 c.loop-c.invariant c.loop-c-test.true c.see-w.ensures refl c.max-most.ensures

pub returns : goal.returns
returns c = gathering_ends c.loop-c.invariant c.loop-c-test.false
