use Rattle.strips.proofs.Laws.Sheet.{drawing-starts, drawing-turns, drawing-done}
use Rattle.strips.proofs.Laws.Puts.{cleared}
use Rattle.corners.proofs.Laws.Corners.{spot, left_low}
use Rattle.plan.proofs.Laws.Tables.{count-some, count_few}
use mathlib.Core.Path.{refl}
use Rattle.strips.proofs.draw.Goals as goal

pub least_x-left-requires : goal.least_x-left-requires
least_x-left-requires c = (count-some _ c.requires.0, count_few _ c.requires.0, c.requires.1)

pub loop-c-init : goal.loop-c-init
loop-c-init c = drawing-starts _ _ _ _ _ _ (cleared _ _ (c.fill.ensures.after (λ y e. e)))

pub put_cell-requires : goal.put_cell-requires
put_cell-requires c =
    let near = c.requires.1 in
    let h = c.loop-c-test.true in
    (spot _ _ near _ (count_few _ c.requires.0) h, left_low _ _ near _ c.least_x-left.ensures _ h)

pub loop-c-preserved : goal.loop-c-preserved
loop-c-preserved c = drawing-turns _ _ _ _ _ _ c.loop-c.invariant c.loop-c-test.true c.put_cell.ensures

pub returns : goal.returns
returns c =
    drawing-done _ _ c.requires.1 _ _ _ _ _ _ _ refl refl refl c.least_x-left.ensures
    c.loop-c.invariant c.loop-c-test.false
