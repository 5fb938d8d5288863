use Rattle.std.proofs.Common.{ap, sym}
use Rattle.answers.specs.Answers.{reach_answer}
use Rattle.answers.proofs.ReachAnswerFromResultSidesRefusal.from.Goals as goal

pub returns-in-Ok : goal.returns-in-Ok
unfolding reach_answer
returns-in-Ok c = ap reach_answer (sym c.in-Ok.is)

pub returns-in-Err : goal.returns-in-Err
unfolding reach_answer
returns-in-Err c = ap reach_answer (sym c.in-Err.is)
