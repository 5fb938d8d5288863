use Rattle.std.proofs.Common.{ap, sym}
use Rattle.answers.specs.Answers.{laid_answer}
use Rattle.answers.proofs.LayoutAnswerFromResultMeasuresRefusal.from.Goals as goal

pub returns-in-Ok : goal.returns-in-Ok
unfolding laid_answer
returns-in-Ok c = ap laid_answer (sym c.in-Ok.is)

pub returns-in-Err : goal.returns-in-Err
unfolding laid_answer
returns-in-Err c = ap laid_answer (sym c.in-Err.is)
