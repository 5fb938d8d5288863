use Rattle.capi.proofs.kuzpalen_report.Goals as goal

pub returns : goal.returns
returns c = record { reported = c.report.result; reports = c.report.ensures; answers = c.into.ensures }
