use mathlib.Core.Path.{◌∙◌}
use Rattle.strokes.specs.Raised.{connector_at}
use Rattle.strokes.proofs.Laws.Raised.{rest-two}
use Rattle.strokes.proofs.connector_stroke.Goals as goal

pub returns-in-0 : goal.returns-in-0
unfolding connector_at
returns-in-0 c = c.move_to.ensures ∙ rw c.in-0.is

pub returns-in-1 : goal.returns-in-1
unfolding connector_at
returns-in-1 c = c.line_to.ensures ∙ rw c.in-1.is

pub returns-in_default : goal.returns-in_default
unfolding connector_at
returns-in_default c = let r = c.in_default.in_default-own.rest in rest-two _ _ _ r.0.1 r.1
