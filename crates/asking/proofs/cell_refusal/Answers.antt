use native.Mathlib.Omega.{arith}
use Rattle.plan.specs.Steps.{cell_refusal}
use Rattle.plan.proofs.Laws.Answered.{err_stops, ok_goes_on}
use Rattle.asking.proofs.cell_refusal.Goals as goal

pub returns-in_err-asked : goal.returns-in_err-asked
unfolding cell_refusal
returns-in_err-asked c =
    err_stops _ _ _ _ (rw c.lower.ensures at c.in_err-asked.ensures.numbered (omega arith)) c.from_residual.ensures.1 _

pub returns-in_err-asked-2 : goal.returns-in_err-asked-2
unfolding cell_refusal
returns-in_err-asked-2 c =
    ok_goes_on _ _ (rw c.lower.ensures at c.in_ok-asked.ensures.numbered (omega arith)) _ _ _
    (err_stops _ _ _ _ (rw c.known.ensures at c.in_err-asked-2.ensures.numbered (omega arith)) c.from_residual-in_err-asked-2.ensures.1 _)

pub returns : goal.returns
unfolding cell_refusal
returns c =
    ok_goes_on _ _ (rw c.lower.ensures at c.in_ok-asked.ensures.numbered (omega arith)) _ _ _
    (ok_goes_on _ _ (rw c.known.ensures at c.in_ok-asked-2.ensures.numbered (omega arith)) _ _ _
    (rw c.sized.ensures at c.asked-3.ensures.numbered (omega arith)))
