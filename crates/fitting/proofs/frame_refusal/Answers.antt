use mathlib.Core.Path.{sym, ap, ◌∙◌}
use native.Mathlib.Omega.{arith}
use Rattle.plan.specs.Columns.{table_of}
use Rattle.plan.specs.Questions.{passed}
use Rattle.plan.proofs.Laws.Answered.{err_stops, ok_goes_on}
use Rattle.plan.proofs.Laws.Calls as calls
use Rattle.fitting.proofs.frame_refusal.Goals as goal

pub returns-in_err-asked : goal.returns-in_err-asked
returns-in_err-asked c =
    err_stops _ _ _ _ (c.in_err-asked.ensures.numbered (omega arith)) c.from_residual.ensures.1 _ ∙ ap passed (sym (calls.frame-refusal (table_of c.args.t.now) c.args.squares c.args.scratch))

pub returns-in_err-counted_refusal : goal.returns-in_err-counted_refusal
returns-in_err-counted_refusal c =
    ok_goes_on _ _ (c.in_ok-asked.ensures.numbered (omega arith)) _ _ _ (err_stops _ _ _ _ (c.in_err-counted_refusal.ensures _) c.from_residual-in_err-counted_refusal.ensures.1 _)
    ∙ ap passed (sym (calls.frame-refusal (table_of c.args.t.now) c.args.squares c.args.scratch))

pub returns : goal.returns
returns c =
    ok_goes_on _ _ (c.in_ok-asked.ensures.numbered (omega arith)) _ _ _ (ok_goes_on _ _ (c.in_ok-counted_refusal.ensures _) _ _ _ (c.asked-2.ensures.numbered (omega arith)))
    ∙ ap passed (sym (calls.frame-refusal (table_of c.args.t.now) c.args.squares c.args.scratch))
