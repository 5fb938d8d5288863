use mathlib.Core.Path.{◌∙◌, sym, ap}
use native.Mathlib.Omega.{arith}
use Rattle.plan.specs.Columns.{table_of}
use Rattle.plan.specs.Questions.{passed}
use Rattle.plan.specs.Steps.{near_refusal}
use Rattle.plan.proofs.Laws.Answered.{err_stops, ok_goes_on, passes}
use Rattle.plan.proofs.Laws.Calls.{strip-refusal}
use Rattle.plan.proofs.Laws.Fit.{lent_fit}
use Rattle.plan.proofs.Laws.Tables.{length-is, count_few}
use Rattle.strips.proofs.refuse.Goals as goal

pub returns-in_err-lent_refusal : goal.returns-in_err-lent_refusal
returns-in_err-lent_refusal c =
    err_stops _ _ _ _ (c.in_err-lent_refusal.ensures _) c.from_residual.ensures.1 _
    ∙ ap passed (sym (strip-refusal (table_of c.args.t.now) c.args.positions.now))

pub near_refusal-requires : goal.near_refusal-requires
near_refusal-requires c =
    let h = lent_fit _ _ (passes _ _ (c.in_ok-lent_refusal.ensures c.args.t.now.rank)) in
    (count_few c.args.t.now h.fit, omega (arith, h.room, length-is c.args.t.now))

pub returns : goal.returns
returns c =
    ok_goes_on _ _ (c.in_ok-lent_refusal.ensures _) _ _ _
    (c.near_refusal.ensures ∙ ap (λ n. passed (near_refusal c.args.positions.now n)) (sym (length-is c.args.t.now)))
    ∙ ap passed (sym (strip-refusal (table_of c.args.t.now) c.args.positions.now))
