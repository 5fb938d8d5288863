use Rattle.std.proofs.Common.{ap, sym}
use Rattle.answers.specs.Answers.{strip_answer}
use Rattle.answers.proofs.StripAnswerFromResultUnitRefusal.from.Goals as goal

pub returns-in-Ok : goal.returns-in-Ok
unfolding strip_answer
returns-in-Ok c = ap strip_answer (sym c.in-Ok.is)

pub returns-in-Err : goal.returns-in-Err
unfolding strip_answer
returns-in-Err c = ap strip_answer (sym c.in-Err.is)
