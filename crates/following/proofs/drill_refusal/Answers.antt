use Rattle.std.proofs.Common.{sym, ap, ◌∙◌, arith}
use Rattle.plan.specs.Columns.{table_of}
use Rattle.plan.specs.Questions.{passed}
use Rattle.plan.proofs.Laws.Answered.{err_stops, ok_goes_on}
use Rattle.plan.proofs.Laws.Calls as calls
use Rattle.following.proofs.drill_refusal.Goals as goal

pub returns-in_err-asked : goal.returns-in_err-asked
returns-in_err-asked c =
    let a = c.args in
    err_stops _ _ _ _ (c.in_err-asked.ensures.numbered (omega arith)) c.from_residual.ensures.1 _ ∙ ap passed (sym (calls.drill-refusal (table_of a.t.now) a.answers a.list))

pub returns-in_err-counted_refusal : goal.returns-in_err-counted_refusal
returns-in_err-counted_refusal c =
    let a = c.args in
    ok_goes_on _ _ (c.in_ok-asked.ensures.numbered (omega arith)) _ _ _ (err_stops _ _ _ _ (c.in_err-counted_refusal.ensures _) c.from_residual-in_err-counted_refusal.ensures.1 _) ∙ ap passed (sym (calls.drill-refusal (table_of a.t.now) a.answers a.list))

pub returns : goal.returns
returns c =
    let a = c.args in
    ok_goes_on _ _ (c.in_ok-asked.ensures.numbered (omega arith)) _ _ _ (ok_goes_on _ _ (c.in_ok-counted_refusal.ensures _) _ _ _ (c.asked-2.ensures.numbered (omega arith))) ∙ ap passed (sym (calls.drill-refusal (table_of a.t.now) a.answers a.list))
