use Rattle.std.proofs.Common.{ap, sym}
use Rattle.answers.specs.Answers.{list_answer}
use Rattle.answers.proofs.ListAnswerFromResultUsizeRefusal.from.Goals as goal

pub returns-in-Ok : goal.returns-in-Ok
unfolding list_answer
returns-in-Ok c = ap list_answer (sym c.in-Ok.is)

pub returns-in-Err : goal.returns-in-Err
unfolding list_answer
returns-in-Err c = ap list_answer (sym c.in-Err.is)
