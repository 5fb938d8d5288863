use native.Mathlib.Omega.{arith}
use Rattle.plan.proofs.Laws.Answered.{err_stops, ok_goes_on}
use Rattle.planfile_spec.specs.FileSteps.{record_refusal}
use Rattle.planfile_body.proofs.record_refusal.Goals as goal

pub returns-in_err-cell_refusal : goal.returns-in_err-cell_refusal
unfolding record_refusal
returns-in_err-cell_refusal c = err_stops _ _ _ _ (rw c.widest.ensures at c.in_err-cell_refusal.ensures) c.from_residual.ensures.1 _

pub returns-in_err-asked : goal.returns-in_err-asked
unfolding record_refusal
returns-in_err-asked c =
    ok_goes_on _ _ (rw c.widest.ensures at c.in_ok-cell_refusal.ensures) _ _ _
    (err_stops _ _ _ _ (rw c.inside.ensures at c.in_err-asked.ensures.numbered (omega arith)) c.from_residual-in_err-asked.ensures.1 _)

pub returns : goal.returns
unfolding record_refusal
returns c =
    ok_goes_on _ _ (rw c.widest.ensures at c.in_ok-cell_refusal.ensures) _ _ _
    (ok_goes_on _ _ (rw c.inside.ensures at c.in_ok-asked.ensures.numbered (omega arith)) _ _ _
    (rw c.bordered.ensures at c.asked-2.ensures.numbered (omega arith)))
