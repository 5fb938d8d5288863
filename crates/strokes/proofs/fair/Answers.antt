use lib.Ieee.{of_bits}
use Rattle.plan.specs.Pages.{fair}
use Rattle.strokes.proofs.Plotting.{stop_and, go_and}
use Rattle.strokes.proofs.fair.Goals as goal

pub returns-then-not-from_to : goal.returns-then-not-from_to
unfolding fair of_bits
returns-then-not-from_to c = stop_and _ _ _ c.from_to.ensures c.if-not-from_to.true

pub returns-then-not-from_to-2 : goal.returns-then-not-from_to-2
unfolding fair of_bits
returns-then-not-from_to-2 c = go_and _ _ _ _ c.from_to.ensures c.if-not-from_to.false (stop_and _ _ _ c.from_to-2.ensures c.if-not-from_to-2.true)

pub returns : goal.returns
unfolding fair of_bits
returns c =
    go_and _ _ _ _ c.from_to.ensures c.if-not-from_to.false
    (go_and _ _ _ _ c.from_to-2.ensures c.if-not-from_to-2.false c.from_to-3.ensures)
