use Rattle.std.proofs.Common.{ap, sym, ◌∙◌}
use Rattle.answers.specs.Answers.{stroke_answer}
use Rattle.answers.proofs.StrokeAnswerFromResultStrokeRefusal.from.Goals as goal

pub returns-in-Ok : goal.returns-in-Ok
unfolding stroke_answer
returns-in-Ok c = c.from.ensures ∙ ap stroke_answer (sym c.in-Ok.is)

pub returns-in-Err : goal.returns-in-Err
unfolding stroke_answer
returns-in-Err c = ap stroke_answer (sym c.in-Err.is)
