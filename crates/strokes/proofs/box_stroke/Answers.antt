use mathlib.Core.Path.{◌∙◌}
use Rattle.strokes.specs.Raised.{box_at}
use Rattle.strokes.proofs.Laws.Raised.{rest_five}
use Rattle.strokes.proofs.box_stroke.Goals as goal

pub returns-in-0 : goal.returns-in-0
unfolding box_at
returns-in-0 c = c.move_to.ensures ∙ rw c.in-0.is

pub returns-in-1 : goal.returns-in-1
unfolding box_at
returns-in-1 c = c.line_to.ensures ∙ rw c.in-1.is

pub returns-in-2 : goal.returns-in-2
unfolding box_at
returns-in-2 c = c.line_to-in-2.ensures ∙ rw c.in-2.is

pub returns-in-3 : goal.returns-in-3
unfolding box_at
returns-in-3 c = c.line_to-in-3.ensures ∙ rw c.in-3.is

pub returns-in-4 : goal.returns-in-4
unfolding box_at
returns-in-4 c = c.line_to-in-4.ensures ∙ rw c.in-4.is

pub returns-in_default : goal.returns-in_default
unfolding box_at
returns-in_default c = let r = c.in_default.in_default-own.rest in rest_five _ _ _ _ _ _ r.0.0.0.0.1 r.0.0.0.1 r.0.0.1 r.0.1 r.1
