use Rattle.std.proofs.Common.{ap, sym}
use Rattle.answers.specs.Answers.{drill_answer}
use Rattle.answers.proofs.Laws.Answers.{within_ok}
use Rattle.answers.proofs.DrillAnswerFromResultDrilledRefusal.from.Goals as goal

pub returns-in-Ok-Finished : goal.returns-in-Ok-Finished
unfolding drill_answer
returns-in-Ok-Finished c = within_ok drill_answer c.in-Ok-Finished.is (rw c.in-Ok-Finished.is at c.in-Ok-Finished.field-0-is)

pub returns-in-Ok-Spent : goal.returns-in-Ok-Spent
unfolding drill_answer
returns-in-Ok-Spent c = within_ok drill_answer c.in-Ok-Spent.is (rw c.in-Ok-Spent.is at c.in-Ok-Spent.field-0-is)

pub returns-in-Ok-Wrong : goal.returns-in-Ok-Wrong
unfolding drill_answer
returns-in-Ok-Wrong c = within_ok drill_answer c.in-Ok-Wrong.is (rw c.in-Ok-Wrong.is at c.in-Ok-Wrong.field-0-is)

pub returns-in-Ok-Full : goal.returns-in-Ok-Full
unfolding drill_answer
returns-in-Ok-Full c = within_ok drill_answer c.in-Ok-Full.is (rw c.in-Ok-Full.is at c.in-Ok-Full.field-0-is)

pub returns-in-Err : goal.returns-in-Err
unfolding drill_answer
returns-in-Err c = ap drill_answer (sym c.in-Err.is)
