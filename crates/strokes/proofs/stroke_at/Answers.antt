use mathlib.Core.Path.{ap, ◌∙◌}
use Rattle.std.specs.Prelude.{Ok}
use Rattle.plan.proofs.Laws.Answered.{answers_err, answers_ok, passes}
use Rattle.strokes.proofs.Laws.Stroked.{accepted}
use Rattle.strokes.specs.Stroked.{stroked_of}
use Rattle.strokes.proofs.stroke_at.Goals as goal

pub returns-in_err-refuse : goal.returns-in_err-refuse
unfolding stroked_of
returns-in_err-refuse c = answers_err _ _ _ _ c.in_err-refuse.ensures c.from_residual.ensures.1

pub drawn-requires : goal.drawn-requires
drawn-requires c = accepted _ _ _ _ (passes _ _ c.in_ok-refuse.ensures)

pub returns : goal.returns
unfolding stroked_of
returns c = ap Ok c.drawn.ensures ∙ answers_ok _ _ c.in_ok-refuse.ensures _
