use native.Mathlib.Omega.{arith}
use lib.ListN.{length}
use mathlib.Core.Path.{refl}
use Rattle.plan.proofs.Laws.Answered.{err_stops, ok_goes_on, passes}
use Rattle.planfile_spec.specs.FileSteps.{formed_refusal}
use Rattle.planfile_spec.proofs.Laws.Examined.{sized-read}
use Rattle.planfile_header.proofs.formed_refusal.Goals as goal

pub returns-in_err-asked : goal.returns-in_err-asked
unfolding formed_refusal
returns-in_err-asked c = err_stops _ _ _ _ (rw c.file_sized.ensures at c.in_err-asked.ensures.numbered (omega arith)) c.from_residual.ensures.1 _

pub trailer-t-requires : goal.trailer-t-requires
trailer-t-requires c = omega (arith, sized-read (length c.args.file.now) _ refl (passes _ _ (rw c.file_sized.ensures at c.in_ok-asked.ensures.numbered (omega arith))))

pub returns-in_err-asked-2 : goal.returns-in_err-asked-2
unfolding formed_refusal
returns-in_err-asked-2 c =
    ok_goes_on _ _ (rw c.file_sized.ensures at c.in_ok-asked.ensures.numbered (omega arith)) _ _ _
    (err_stops _ _ _ _ (rw (c.marked.ensures, c.trailer-t.ensures) at c.in_err-asked-2.ensures.numbered (omega arith)) c.from_residual-in_err-asked-2.ensures.1 _)

pub returns : goal.returns
unfolding formed_refusal
returns c =
    ok_goes_on _ _ (rw c.file_sized.ensures at c.in_ok-asked.ensures.numbered (omega arith)) _ _ _
    (ok_goes_on _ _ (rw (c.marked.ensures, c.trailer-t.ensures) at c.in_ok-asked-2.ensures.numbered (omega arith)) _ _ _
    (rw (c.counted.ensures, c.form_of.ensures, c.trailer-t.ensures) at c.asked-3.ensures.numbered (omega arith)))
