use mathlib.Core.Path.{sym, ◌∙◌}
use Rattle.mending_boxes.proofs.Laws.Code.{new_width-raised, new_width-left}
use Rattle.mending_boxes.proofs.new_width.Goals as goal

pub returns-then-cramped : goal.returns-then-cramped
returns-then-cramped c = new_width-raised _ (sym c.cramped.ensures ∙ c.if-cramped.true) c.least_width.ensures

pub returns : goal.returns
returns c = new_width-left _ (sym c.cramped.ensures ∙ c.if-cramped.false)
