use Rattle.strokes.proofs.Laws.Raised.{boxed, box_drawn, connector_drawn, connector_cell}
use Rattle.corners.proofs.Laws.Corners.{spot}
use Rattle.plan.proofs.Laws.Tables.{count-some, count_few, parent_lower}
use native.Mathlib.Omega.{arith}
use mathlib.Core.Path.{◌∙◌}
use Rattle.strokes.proofs.drawn.Goals as goal

pub least_x-left-requires : goal.least_x-left-requires
least_x-left-requires c = (count-some _ c.requires.0, count_few _ c.requires.0, c.requires.1)

pub box_of-requires : goal.box_of-requires
box_of-requires c =
    let lm = c.least_x-left.ensures in
    let h = c.if-s-n.true in
    (lm.low, spot _ _ c.requires.1 _ (count_few _ c.requires.0) (omega arith), boxed _ c.requires.0 _ (omega arith))

pub returns-then-s-n : goal.returns-then-s-n
returns-then-s-n c = c.box_of.ensures ∙ box_drawn _ _ _ c.requires.1 _ c.least_x-left.ensures _ c.if-s-n.true

pub parent_of-p-requires : goal.parent_of-p-requires
parent_of-p-requires c =
    let i = connector_cell _ _ c.if-s-n.false c.requires.2 in
    (omega (arith, count_few _ c.requires.0), parent_lower _ c.requires.0 _ (omega arith) i)

pub connector_of-requires : goal.connector_of-requires
connector_of-requires c =
    let i = connector_cell _ _ c.if-s-n.false c.requires.2 in
    let k = c.parent_of-p.ensures.1 in
    let few = count_few _ c.requires.0 in
    (c.least_x-left.ensures.low, spot _ _ c.requires.1 _ few (omega arith), spot _ _ c.requires.1 _ few i, boxed _ c.requires.0 _ (omega arith), boxed _ c.requires.0 _ i)

pub returns : goal.returns
returns c = c.connector_of.ensures ∙ connector_drawn _ _ _ c.requires.1 _ c.least_x-left.ensures _ _ c.if-s-n.false c.requires.2 c.parent_of-p.ensures.0 c.parent_of-p.ensures.1
