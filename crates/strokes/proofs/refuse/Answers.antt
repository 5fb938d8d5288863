use mathlib.Core.Path.{◌∙◌, sym, ap}
use native.Mathlib.Omega.{arith}
use Prim.Native.Nat.{ℕ, ◌*◌, ◌-◌}
use lib.Dec.{ltb}
use Rattle.plan.specs.Columns.{table_of}
use Rattle.plan.specs.Questions.{passed, asked, strokes_of}
use Rattle.plan.specs.Steps.{near_refusal}
use Rattle.plan.proofs.Laws.Answered.{err_stops, ok_goes_on, passes}
use Rattle.plan.proofs.Laws.Calls.{stroke-refusal}
use Rattle.plan.proofs.Laws.Tables.{length-is}
use Rattle.strokes.proofs.Laws.Stroked.{lent_counts}
use Rattle.strokes.proofs.refuse.Goals as goal

pub returns-in_err-lent_refusal : goal.returns-in_err-lent_refusal
returns-in_err-lent_refusal c =
    err_stops _ _ _ _ (c.in_err-lent_refusal.ensures _) c.from_residual.ensures.1 _
    ∙ ap passed (sym (stroke-refusal (table_of c.args.t.now) c.args.positions.now c.args.page c.args.s))

pub near_refusal-requires : goal.near_refusal-requires
near_refusal-requires c = let h = lent_counts c.args.t.now _ (passes _ _ (c.in_ok-lent_refusal.ensures c.args.t.now.rank)) in (h.1, h.2)

pub returns-in_err-near_refusal : goal.returns-in_err-near_refusal
returns-in_err-near_refusal c =
    ok_goes_on _ _ (c.in_ok-lent_refusal.ensures _) _ _ _
    (err_stops _ _ _ _ (c.in_err-near_refusal.ensures ∙ ap (λ n. passed (near_refusal c.args.positions.now n)) (sym (length-is c.args.t.now))) c.from_residual-in_err-near_refusal.ensures.1 _)
    ∙ ap passed (sym (stroke-refusal (table_of c.args.t.now) c.args.positions.now c.args.page c.args.s))

pub returns-in_err-asked : goal.returns-in_err-asked
returns-in_err-asked c =
    ok_goes_on _ _ (c.in_ok-lent_refusal.ensures _) _ _ _
    (ok_goes_on _ _ (c.in_ok-near_refusal.ensures ∙ ap (λ n. passed (near_refusal c.args.positions.now n)) (sym (length-is c.args.t.now))) _ _ _
    (err_stops _ _ _ _ (rw c.fair.ensures at c.in_err-asked.ensures.numbered (omega arith)) c.from_residual-in_err-asked.ensures.1 _))
    ∙ ap passed (sym (stroke-refusal (table_of c.args.t.now) c.args.positions.now c.args.page c.args.s))

pub overflow_mul-t : goal.overflow_mul-t
overflow_mul-t c = let h = lent_counts c.args.t.now _ (passes _ _ (c.in_ok-lent_refusal.ensures c.args.t.now.rank)) in omega (arith, h.1)

pub overflow_sub-t : goal.overflow_sub-t
overflow_sub-t c = let h = lent_counts c.args.t.now _ (passes _ _ (c.in_ok-lent_refusal.ensures c.args.t.now.rank)) in omega (arith, h.0)

pub returns : goal.returns
unfolding strokes_of
returns c =
    ok_goes_on _ _ (c.in_ok-lent_refusal.ensures _) _ _ _
    (ok_goes_on _ _ (c.in_ok-near_refusal.ensures ∙ ap (λ n. passed (near_refusal c.args.positions.now n)) (sym (length-is c.args.t.now))) _ _ _
    (ok_goes_on _ _ (rw c.fair.ensures at c.in_ok-asked.ensures.numbered (omega arith)) _ _ _
    (c.asked-2.ensures.numbered (omega arith) ∙ ap (λ (n : ℕ). passed (asked 18 (ltb c.args.s (9 * n - 3)) 0)) (sym (length-is c.args.t.now)))))
    ∙ ap passed (sym (stroke-refusal (table_of c.args.t.now) c.args.positions.now c.args.page c.args.s))
