use Rattle.std.proofs.Common.{ap, sym}
use Rattle.answers.specs.Answers.{mark_answer}
use Rattle.answers.proofs.Laws.Answers.{within_ok}
use Rattle.answers.proofs.MarkAnswerFromResultMarkedRefusal.from.Goals as goal

pub returns-in-Ok-Full : goal.returns-in-Ok-Full
unfolding mark_answer
returns-in-Ok-Full c = within_ok mark_answer c.in-Ok-Full.is (rw c.in-Ok-Full.is at c.in-Ok-Full.field-0-is)

pub returns-in-Ok-Wide : goal.returns-in-Ok-Wide
unfolding mark_answer
returns-in-Ok-Wide c = within_ok mark_answer c.in-Ok-Wide.is (rw c.in-Ok-Wide.is at c.in-Ok-Wide.field-0-is)

pub returns-in-Ok-Broken : goal.returns-in-Ok-Broken
unfolding mark_answer
returns-in-Ok-Broken c = within_ok mark_answer c.in-Ok-Broken.is (rw c.in-Ok-Broken.is at c.in-Ok-Broken.field-0-is)

pub returns-in-Err : goal.returns-in-Err
unfolding mark_answer
returns-in-Err c = ap mark_answer (sym c.in-Err.is)
