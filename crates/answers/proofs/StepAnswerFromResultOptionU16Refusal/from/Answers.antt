use Rattle.std.proofs.Common.{ap, sym}
use Rattle.answers.specs.Answers.{step_answer}
use Rattle.answers.proofs.Laws.Answers.{within_ok}
use Rattle.answers.proofs.StepAnswerFromResultOptionU16Refusal.from.Goals as goal

pub returns-in-Ok-Some : goal.returns-in-Ok-Some
unfolding step_answer
returns-in-Ok-Some c = within_ok step_answer c.in-Ok-Some.is (rw c.in-Ok-Some.is at c.in-Ok-Some.field-0-is)

pub returns-in-Ok-None : goal.returns-in-Ok-None
unfolding step_answer
returns-in-Ok-None c = within_ok step_answer c.in-Ok-None.is (rw c.in-Ok-None.is at c.in-Ok-None.field-0-is)

pub returns-in-Err : goal.returns-in-Err
unfolding step_answer
returns-in-Err c = ap step_answer (sym c.in-Err.is)
