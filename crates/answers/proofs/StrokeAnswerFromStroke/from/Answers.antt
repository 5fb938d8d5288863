use Rattle.std.proofs.Common.{ap, sym}
use Rattle.answers.specs.Answers.{pen_answer}
use Rattle.answers.proofs.StrokeAnswerFromStroke.from.Goals as goal

pub returns-in-Move : goal.returns-in-Move
unfolding pen_answer
returns-in-Move c = ap pen_answer (sym c.in-Move.is)

pub returns-in-Line : goal.returns-in-Line
unfolding pen_answer
returns-in-Line c = ap pen_answer (sym c.in-Line.is)

pub returns-in-Lift : goal.returns-in-Lift
unfolding pen_answer
returns-in-Lift c = ap pen_answer (sym c.in-Lift.is)
