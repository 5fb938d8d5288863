use native.Mathlib.Omega.{arith}
use Rattle.corners.proofs.Laws.Corners.{lowering_starts, lowering_turns, lowering_ends, spot}
use Rattle.corners.proofs.least_x.Goals as goal

pub raise_at-low-requires : goal.raise_at-low-requires
raise_at-low-requires c = (omega (arith, c.requires.2.room), omega arith, c.requires.2.x 0 (omega arith))

pub loop-c-init : goal.loop-c-init
loop-c-init c = lowering_starts _ _ c.requires.2 c.requires.0 _ c.raise_at-low.ensures

pub x_of-requires : goal.x_of-requires
x_of-requires c = spot _ _ c.requires.2 _ c.requires.1 c.loop-c-test.true

pub loop-c-preserved : goal.loop-c-preserved
loop-c-preserved c = lowering_turns _ _ c.requires.2 c.loop-c.invariant c.loop-c-test.true _ _ c.x_of.ensures.0 c.min-low.ensures

pub returns : goal.returns
returns c = lowering_ends _ _ c.requires.2 c.loop-c.invariant c.loop-c-test.false
