use Rattle.strips.proofs.Laws.Puts.{box-above, box-below, box-top, box-base, box_sides}
use Rattle.strips.proofs.put_box.Goals as goal
use Rattle.strips.proofs.put_box.Goals.{then-row-y-via-then-row-y, then-row-y-via-else-row-y+then-y-d, then-row-y-2-via-then-row-y-2, then-row-y-2-via-else-row-y-2+then-row-y-3}

pub returns-then-row-y : goal.returns-then-row-y
returns-then-row-y c =
    elim c.then-row-y.branch [
      | then-row-y-via-then-row-y w ↦ box-above _ _ _ _ _ _ _ w.if-row-y.true
      | then-row-y-via-else-row-y+then-y-d w ↦ box-below _ _ _ _ _ _ _ w.if-y-d.true
    ]

pub returns-then-row-y-2 : goal.returns-then-row-y-2
returns-then-row-y-2 c =
    elim c.then-row-y-2.branch [
      | then-row-y-2-via-then-row-y-2 w ↦ box-top _ _ _ _ _ _ w.if-row-y-2.true c.run_from.ensures
      | then-row-y-2-via-else-row-y-2+then-row-y-3 w ↦ box-base _ _ _ _ _ _ w.if-row-y-3.true c.run_from.ensures
    ]

pub returns : goal.returns
returns c = box_sides _ _ _ _ _ _ c.if-row-y.false c.if-y-d.false c.if-row-y-2.false c.if-row-y-3.false c.one_from.ensures c.one_from-2.ensures
