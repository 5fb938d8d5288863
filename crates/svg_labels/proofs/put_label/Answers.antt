use native.Mathlib.Omega.{arith}
use Rattle.listing.proofs.Laws.Put.{put-none}
use Rattle.svg_labels.proofs.Laws.Labels.{label-empty, label-move, label-line, label_lift, put_as}
use Rattle.svg_labels.proofs.put_label.Goals as goal

pub returns-then-is_empty : goal.returns-then-is_empty
returns-then-is_empty c = (put_as _ _ (label-empty _ _ c.if-is_empty.ensures) (put-none _ _), omega arith)

pub returns-in-Move : goal.returns-in-Move
returns-in-Move c = (put_as _ _ (label-move _ _ c.if-is_empty.ensures _ _ c.in-Move.is) (put-none _ _), omega arith)

pub returns-in-Line : goal.returns-in-Line
returns-in-Line c = (put_as _ _ (label-line _ _ c.if-is_empty.ensures _ _ c.in-Line.is) c.put_label_at.ensures.0, c.put_label_at.ensures.1)

pub returns-in-Lift : goal.returns-in-Lift
returns-in-Lift c = (put_as _ _ (label_lift _ _ c.if-is_empty.ensures c.in-Lift.is) (put-none _ _), omega arith)
