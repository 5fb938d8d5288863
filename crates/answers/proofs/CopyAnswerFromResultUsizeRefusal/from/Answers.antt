use Rattle.std.proofs.Common.{ap, sym}
use Rattle.answers.specs.Answers.{copy_answer}
use Rattle.answers.proofs.CopyAnswerFromResultUsizeRefusal.from.Goals as goal

pub returns-in-Ok : goal.returns-in-Ok
unfolding copy_answer
returns-in-Ok c = ap copy_answer (sym c.in-Ok.is)

pub returns-in-Err : goal.returns-in-Err
unfolding copy_answer
returns-in-Err c = ap copy_answer (sym c.in-Err.is)
