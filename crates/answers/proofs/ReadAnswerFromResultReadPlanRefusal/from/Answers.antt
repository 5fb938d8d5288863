use Rattle.std.proofs.Common.{ap, sym}
use Rattle.answers.specs.Answers.{read_answer}
use Rattle.answers.proofs.ReadAnswerFromResultReadPlanRefusal.from.Goals as goal

pub returns-in-Ok : goal.returns-in-Ok
unfolding read_answer
returns-in-Ok c = ap read_answer (sym c.in-Ok.is)

pub returns-in-Err : goal.returns-in-Err
unfolding read_answer
returns-in-Err c = ap read_answer (sym c.in-Err.is)
