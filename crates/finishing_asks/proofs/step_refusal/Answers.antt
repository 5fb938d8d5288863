use mathlib.Core.Path.{sym, ap, ◌∙◌}
use native.Mathlib.Omega.{arith}
use Rattle.plan.specs.Columns.{table_of}
use Rattle.plan.specs.Questions.{passed}
use Rattle.plan.proofs.Laws.Answered.{err_stops, ok_goes_on}
use Rattle.plan.proofs.Laws.Calls as calls
use Rattle.finishing_asks.proofs.step_refusal.Goals as goal

pub returns-in_err-asked : goal.returns-in_err-asked
returns-in_err-asked c =
    err_stops _ _ _ _ (c.in_err-asked.ensures.numbered (omega arith)) c.from_residual.ensures.1 _
    ∙ ap passed (sym (calls.step-refusal (table_of c.args.t.now) c.args.allowance c.args.scratch c.args.second c.args.positions))

pub returns : goal.returns
returns c =
    ok_goes_on _ _ (c.in_ok-asked.ensures.numbered (omega arith)) _ _ _ c.layout_refusal.ensures
    ∙ ap passed (sym (calls.step-refusal (table_of c.args.t.now) c.args.allowance c.args.scratch c.args.second c.args.positions))
