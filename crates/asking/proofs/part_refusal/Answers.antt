use mathlib.Core.Path.{refl}
use native.Mathlib.Omega.{arith}
use Rattle.plan.proofs.Laws.Answered.{err_stops, ok_goes_on, passes}
use Rattle.plan.proofs.Laws.Steps.{counted-read}
use Rattle.asking.proofs.part_refusal.Goals as goal

pub returns-in_err-asked : goal.returns-in_err-asked
returns-in_err-asked c = λ qs. err_stops _ _ _ _ (rw c.counted.ensures at c.in_err-asked.ensures.numbered (omega arith)) c.from_residual.ensures.1 _

pub cells_refusal-requires : goal.cells_refusal-requires
cells_refusal-requires c = (counted-read _ _ refl (passes _ _ (rw c.counted.ensures at c.in_ok-asked.ensures.numbered (omega arith)))).1

pub returns : goal.returns
returns c = λ qs. ok_goes_on _ _ (rw c.counted.ensures at c.in_ok-asked.ensures.numbered (omega arith)) _ _ _ (c.cells_refusal.ensures qs)
