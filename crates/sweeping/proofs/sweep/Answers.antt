use mathlib.Core.Path.{refl}
use Rattle.sweeping.proofs.Passing.{said_yes, said-no}
use Rattle.sweeping.proofs.Filling.{last_few, sweeping_starts, cell_low, sweeping_turns, sweeping_stops, sweeping_ends}
use Rattle.sweeping.proofs.sweep.Goals as goal

pub loop-k-init : goal.loop-k-init
loop-k-init c = sweeping_starts _ _ c.requires.0 (last_few _ _ c.requires.0 c.see-root.ensures refl)

pub settle-requires : goal.settle-requires
settle-requires c = (c.requires.0, c.requires.2, cell_low _ _ c.requires.0 c.requires.1 c.see-root.ensures refl c.loop-k.invariant c.loop-k-test.true c.cell_at-c.ensures, c.loop-k.invariant.long)

pub returns-then-not-settle : goal.returns-then-not-settle
returns-then-not-settle c = said-no (sweeping_stops _ _ c.requires.0 c.requires.1 c.see-root.ensures refl c.loop-k.invariant c.loop-k-test.true c.cell_at-c.ensures c.requires.2 (c.settle.ensures.1 (c.if-not-settle.true)))

pub loop-k-preserved : goal.loop-k-preserved
loop-k-preserved c = sweeping_turns _ _ c.requires.0 c.requires.1 c.see-root.ensures refl c.loop-k.invariant c.loop-k-test.true c.cell_at-c.ensures (c.settle.ensures.0 (c.if-not-settle.false))

pub returns : goal.returns
returns c = said_yes (sweeping_ends _ _ c.requires.0 c.requires.1 c.see-root.ensures refl c.loop-k.invariant c.loop-k-test.false)
