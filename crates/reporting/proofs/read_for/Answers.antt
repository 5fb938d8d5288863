use mathlib.Core.Path.{ap, sym, ◌∙◌}
use native.Mathlib.Omega.{arith}
use Rattle.plan.specs.Questions.{answered}
use Rattle.plan.proofs.Laws.Answered.{err_stops, ok_goes_on, passes}
use Rattle.planfile_spec.proofs.Laws.Examined.{formed_read}
use Rattle.reporting.specs.Reporting.{file_plan}
use Rattle.reporting.proofs.Laws.Reporting.{refusal_is, goes_to_read}
use Rattle.reporting.proofs.read_for.Goals as goal

pub returns-in_err-asked : goal.returns-in_err-asked
returns-in_err-asked c =
    err_stops _ _ _ _ (rw c.long_enough.ensures at c.in_err-asked.ensures.numbered (omega arith)) c.from_residual.ensures.1 _
    ∙ ap (λ r. answered r (file_plan c.args.file.now)) (sym (refusal_is c.args.file.now c.args.room c.args.scratch c.args.positions))

pub returns-in_err-formed_refusal : goal.returns-in_err-formed_refusal
returns-in_err-formed_refusal c =
    ok_goes_on _ _ (rw c.long_enough.ensures at c.in_ok-asked.ensures.numbered (omega arith)) _ _ _
    (err_stops _ _ _ _ c.in_err-formed_refusal.ensures c.from_residual-in_err-formed_refusal.ensures.1 _)
    ∙ ap (λ r. answered r (file_plan c.args.file.now)) (sym (refusal_is c.args.file.now c.args.room c.args.scratch c.args.positions))

pub trailer-t-requires : goal.trailer-t-requires
trailer-t-requires c = omega (arith, (formed_read c.args.file.now (passes _ _ c.in_ok-formed_refusal.ensures)).long)

pub returns-in_err-asked-2 : goal.returns-in_err-asked-2
returns-in_err-asked-2 c =
    ok_goes_on _ _ (rw c.long_enough.ensures at c.in_ok-asked.ensures.numbered (omega arith)) _ _ _
    (ok_goes_on _ _ c.in_ok-formed_refusal.ensures _ _ _
    (err_stops _ _ _ _ (rw (c.from.ensures, c.trailer-t.ensures) at c.in_err-asked-2.ensures.numbered (omega arith)) c.from_residual-in_err-asked-2.ensures.1 _))
    ∙ ap (λ r. answered r (file_plan c.args.file.now)) (sym (refusal_is c.args.file.now c.args.room c.args.scratch c.args.positions))

pub returns : goal.returns
returns c =
    ok_goes_on _ _ (rw c.long_enough.ensures at c.in_ok-asked.ensures.numbered (omega arith)) _ _ _
    (ok_goes_on _ _ c.in_ok-formed_refusal.ensures _ _ _
    (ok_goes_on _ _ (rw (c.from.ensures, c.trailer-t.ensures) at c.in_ok-asked-2.ensures.numbered (omega arith)) _ _ _
    (c.read.ensures ∙ goes_to_read c.args.file.now c.args.room c.args.scratch c.args.positions (passes _ _ c.in_ok-formed_refusal.ensures))))
    ∙ ap (λ r. answered r (file_plan c.args.file.now)) (sym (refusal_is c.args.file.now c.args.room c.args.scratch c.args.positions))
