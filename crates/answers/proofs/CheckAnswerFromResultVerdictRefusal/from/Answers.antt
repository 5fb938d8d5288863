use Rattle.std.proofs.Common.{ap, sym}
use Rattle.answers.specs.Answers.{check_answer}
use Rattle.answers.proofs.Laws.Answers.{within_ok}
use Rattle.answers.proofs.CheckAnswerFromResultVerdictRefusal.from.Goals as goal

pub returns-in-Ok-Kept : goal.returns-in-Ok-Kept
unfolding check_answer
returns-in-Ok-Kept c = within_ok check_answer c.in-Ok-Kept.is (rw c.in-Ok-Kept.is at c.in-Ok-Kept.field-0-is)

pub returns-in-Ok-Broken : goal.returns-in-Ok-Broken
unfolding check_answer
returns-in-Ok-Broken c = within_ok check_answer c.in-Ok-Broken.is (rw c.in-Ok-Broken.is at c.in-Ok-Broken.field-0-is)

pub returns-in-Err : goal.returns-in-Err
unfolding check_answer
returns-in-Err c = ap check_answer (sym c.in-Err.is)
