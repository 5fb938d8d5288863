-- WHAT A STROKE'S CALL ANSWERS (document 02, E1), on every input. Assumes nothing.
use Rattle.std.specs.Prelude.{List, ℕ, get_or, ℤ, Result}
use Rattle.plan.specs.Plan.{Table}
use Rattle.plan.specs.Questions.{refusal, stroke, stroke_given, answered}
use Rattle.plan.specs.declared.Page.{Page}
use Rattle.plan.specs.declared.Refusal.{Refusal}
use Rattle.rules.specs.Placement.{placed}
use Rattle.pen.specs.declared.Stroke.{Stroke}
use Rattle.pen.specs.declared.Stroke.TheVariants.{Lift}
use Rattle.pen.specs.Strokes.{strokes}

-- "stroke number s, from 0". Question 18 passes no s beyond the list, so what it gives there does not matter
unfoldable pub stroked_of : Table → List ℤ → Page → ℕ → Result Stroke Refusal
stroked_of t ps g s = answered (refusal stroke (stroke_given t ps g s)) (get_or (strokes t (placed ps) g) s Lift)
