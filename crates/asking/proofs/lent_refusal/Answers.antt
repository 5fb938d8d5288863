use mathlib.Core.Path.{refl, sym, ap, ◌∙◌}
use native.Mathlib.Omega.{arith}
use Rattle.plan.specs.Questions.{passed}
use Rattle.plan.proofs.Laws.Answered.{err_stops, ok_goes_on, passes}
use Rattle.plan.proofs.Laws.Steps.{lent_columns, counted-read}
use Rattle.asking.proofs.lent_refusal.Goals as goal

pub returns-in_err-asked : goal.returns-in_err-asked
returns-in_err-asked c =
    λ qs. err_stops _ _ _ _ (rw c.counted.ensures at c.in_err-asked.ensures.numbered (omega arith)) c.from_residual.ensures.1 _ ∙ ap passed (sym (lent_columns _ _ _ _ qs _ _))

pub overflow_mul-t : goal.overflow_mul-t
overflow_mul-t c = omega (arith, counted-read c.args.t.now.count _ refl (passes _ _ (rw c.counted.ensures at c.in_ok-asked.ensures.numbered (omega arith))))

pub returns-in_err-asked-2 : goal.returns-in_err-asked-2
returns-in_err-asked-2 c =
    λ qs. ok_goes_on _ _ (rw c.counted.ensures at c.in_ok-asked.ensures.numbered (omega arith)) _ _ _
    (err_stops _ _ _ _ (c.in_err-asked-2.ensures.numbered (omega arith)) c.from_residual-in_err-asked-2.ensures.1 _)
    ∙ ap passed (sym (lent_columns _ _ _ _ qs _ _))

pub table_refusal-requires : goal.table_refusal-requires
table_refusal-requires c = counted-read _ _ refl (passes _ _ (rw c.counted.ensures at c.in_ok-asked.ensures.numbered (omega arith)))

pub returns : goal.returns
returns c =
    λ qs. ok_goes_on _ _ (rw c.counted.ensures at c.in_ok-asked.ensures.numbered (omega arith)) _ _ _
    (ok_goes_on _ _ (c.in_ok-asked-2.ensures.numbered (omega arith)) _ _ _ (c.table_refusal.ensures qs))
    ∙ ap passed (sym (lent_columns _ _ _ _ qs _ _))
