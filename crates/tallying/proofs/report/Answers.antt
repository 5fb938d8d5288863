use Rattle.std.proofs.Common.{arith}
use Rattle.tallying.proofs.Laws.Report.{refused_reports, draft_fits, draft_reports}
use Rattle.tallying.proofs.report.Goals as goal

pub returns-in_err-draft : goal.returns-in_err-draft
returns-in_err-draft c = refused_reports _ c.args.table.now _ _ _ _ _ _ c.in_err-draft.ensures c.from_residual.ensures.1

pub fill-requires : goal.fill-requires
fill-requires c = omega (arith, draft_fits _ c.args.table.now _ _ _ _ _ c.in_ok-draft.ensures)

pub returns : goal.returns
returns c = draft_reports _ c.args.table.now _ _ _ _ _ c.in_ok-draft.ensures _ c.fill.ensures
