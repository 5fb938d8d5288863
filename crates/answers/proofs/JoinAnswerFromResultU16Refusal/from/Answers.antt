use Rattle.std.proofs.Common.{ap, sym}
use Rattle.answers.specs.Answers.{join_answer}
use Rattle.answers.proofs.JoinAnswerFromResultU16Refusal.from.Goals as goal

pub returns-in-Ok : goal.returns-in-Ok
unfolding join_answer
returns-in-Ok c = ap join_answer (sym c.in-Ok.is)

pub returns-in-Err : goal.returns-in-Err
unfolding join_answer
returns-in-Err c = ap join_answer (sym c.in-Err.is)
