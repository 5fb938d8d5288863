use Rattle.planfile_spec.specs.FileSteps.{columns_refusal, file_refusal}
use mathlib.Core.Path.{◌≡◌, refl, ap, ◌∙◌}
use native.Mathlib.Omega.{arith}
use Rattle.plan.proofs.Laws.Answered.{passes}
use Rattle.planfile_spec.specs.Read.{reading, answer_of}
use Rattle.planfile_spec.proofs.Laws.Examined.{header_read, room-read, count-read, body_is, plan-examined, file-passed, header_stops}
use Rattle.planfile_spec.proofs.Laws.Answer.{records-plan, answers_plan, examined_err}
use Rattle.plan.proofs.Laws.Answered.{refused_by}
use Rattle.planfile.proofs.questions.examined.Goals as goal

pub returns-in_err-header_refusal : goal.returns-in_err-header_refusal
returns-in_err-header_refusal c =
    let h = c.in_err-header_refusal.ensures in
    examined_err _ _ _ _ h c.from_residual.ensures.1 (header_stops c.args.file.now _ refl (refused_by _ _ _ h).1)

pub trailer-t-requires : goal.trailer-t-requires
trailer-t-requires c = omega (arith, (header_read c.args.file.now (passes _ _ c.in_ok-header_refusal.ensures)).long)

pub records-plan-requires : goal.records-plan-requires
records-plan-requires c = rw c.form_of-form.ensures (room-read c.args.file.now (passes _ _ c.in_ok-header_refusal.ensures) _ c.trailer-t.ensures)

pub body_refusal-requires : goal.body_refusal-requires
body_refusal-requires c =
    count-read c.args.file.now (passes _ _ c.in_ok-header_refusal.ensures) _ c.trailer-t.ensures _ (records-plan _ _ _ _ (rw c.form_of-form.ensures at c.records-plan.ensures))

pub returns-in_err-body_refusal : goal.returns-in_err-body_refusal
returns-in_err-body_refusal c =
    let h = passes _ _ c.in_ok-header_refusal.ensures in
    examined_err _ _ _ _ c.in_err-body_refusal.ensures c.from_residual-in_err-body_refusal.ensures.1
    (file-passed c.args.file.now _ _ refl h (rw c.form_of-form.ensures (body_is c.args.file.now h _ c.trailer-t.ensures _ (records-plan _ _ _ _ (rw c.form_of-form.ensures at c.records-plan.ensures)))))

pub returns : goal.returns
returns c =
    let h = passes _ _ c.in_ok-header_refusal.ensures in
    let q = records-plan _ _ _ _ (rw c.form_of-form.ensures at c.records-plan.ensures) in
    let r = columns_refusal (reading c.records-plan.result) c.form_of-form.result c.trailer-t.result.begin in
    let e : r ≡ file_refusal c.args.file.now = file-passed c.args.file.now _ _ refl h (rw c.form_of-form.ensures (body_is c.args.file.now h _ c.trailer-t.ensures _ q)) in
    answers_plan _ ∙ ap answer_of (plan-examined c.args.file.now h _ c.trailer-t.ensures _ q r e (passes _ _ c.in_ok-body_refusal.ensures))
