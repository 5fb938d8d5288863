use Rattle.std.proofs.Common.{ap, sym}
use Rattle.answers.specs.Answers.{report_answer}
use Rattle.answers.proofs.ReportAnswerFromResultReportRefusal.from.Goals as goal

pub returns-in-Ok : goal.returns-in-Ok
unfolding report_answer
returns-in-Ok c = ap report_answer (sym c.in-Ok.is)

pub returns-in-Err : goal.returns-in-Err
unfolding report_answer
returns-in-Err c = rw c.nothing.ensures (ap report_answer (sym c.in-Err.is))
