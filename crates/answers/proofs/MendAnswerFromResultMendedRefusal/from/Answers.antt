use Rattle.std.proofs.Common.{ap, sym}
use Rattle.answers.specs.Answers.{mend_answer}
use Rattle.answers.proofs.MendAnswerFromResultMendedRefusal.from.Goals as goal

pub returns-in-Ok : goal.returns-in-Ok
unfolding mend_answer
returns-in-Ok c = ap mend_answer (sym c.in-Ok.is)

pub returns-in-Err : goal.returns-in-Err
unfolding mend_answer
returns-in-Err c = ap mend_answer (sym c.in-Err.is)
