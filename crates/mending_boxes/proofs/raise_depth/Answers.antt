use mathlib.Core.Path.{sym, ◌∙◌}
use Rattle.mending_boxes.proofs.Laws.Code.{depth_put, depth_kept}
use Rattle.mending_boxes.proofs.raise_depth.Goals as goal

pub returns-then-shallow : goal.returns-then-shallow
returns-then-shallow c = depth_put _ _ _ _ (sym c.shallow.ensures ∙ c.if-shallow.true) c.put_depth.ensures

pub returns-else-shallow : goal.returns-else-shallow
returns-else-shallow c = depth_kept _ _ _ _ (sym c.shallow.ensures ∙ c.if-shallow.false)
