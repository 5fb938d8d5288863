use mathlib.Core.Path.{sym, ◌∙◌}
use Rattle.mending_boxes.proofs.Laws.Code.{new_depth-raised, new_depth-left}
use Rattle.mending_boxes.proofs.new_depth.Goals as goal

pub returns-then-shallow : goal.returns-then-shallow
returns-then-shallow c = new_depth-raised _ (sym c.shallow.ensures ∙ c.if-shallow.true)

pub returns : goal.returns
returns c = new_depth-left _ (sym c.shallow.ensures ∙ c.if-shallow.false)
