use Rattle.std.proofs.Common.{ap, sym}
use Rattle.answers.specs.Answers.{start_answer}
use Rattle.answers.proofs.StartAnswerFromResultUnitRefusal.from.Goals as goal

pub returns-in-Ok : goal.returns-in-Ok
unfolding start_answer
returns-in-Ok c = ap start_answer (sym c.in-Ok.is)

pub returns-in-Err : goal.returns-in-Err
unfolding start_answer
returns-in-Err c = ap start_answer (sym c.in-Err.is)
