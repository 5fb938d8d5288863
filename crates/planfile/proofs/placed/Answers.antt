use mathlib.Core.Path.{refl, ap, ◌∙◌}
use native.Mathlib.Omega.{arith}
use Rattle.plan.specs.Questions.{answered}
use Rattle.plan.proofs.Laws.Answered.{answers_err, answers_ok, passes}
use Rattle.planfile_spec.proofs.Laws.Label.{part_given, trailer_there, record_there, record_is}
use Rattle.planfile.proofs.placed.Goals as goal

pub returns-in_err-label_refusal : goal.returns-in_err-label_refusal
returns-in_err-label_refusal c = answers_err _ _ _ _ c.in_err-label_refusal.ensures c.from_residual.ensures.1

pub trailer-t-requires : goal.trailer-t-requires
trailer-t-requires c = trailer_there c.args.file.now c.args.cell _ refl (passes _ _ c.in_ok-label_refusal.ensures)

pub place-requires : goal.place-requires
place-requires c =
    rw c.form_of-form.ensures (let h = record_there c.args.file.now c.args.cell _ refl (passes _ _ c.in_ok-label_refusal.ensures) c.trailer-t.result c.trailer-t.ensures in (h.0, omega (arith, h.1, c.well_formed)))

pub entry-entry-requires : goal.entry-entry-requires
entry-entry-requires c = rw (c.place.ensures, c.form_of-form.ensures) (record_there c.args.file.now c.args.cell _ refl (passes _ _ c.in_ok-label_refusal.ensures) c.trailer-t.result c.trailer-t.ensures).1

pub returns : goal.returns
returns c =
    let z = passes _ _ c.in_ok-label_refusal.ensures in
    let e = part_given c.args.file.now c.args.cell _ refl z _ (c.entry-entry.ensures.0 ∙ rw (c.place.ensures, c.form_of-form.ensures) (record_is c.args.file.now c.args.cell _ refl z _ c.trailer-t.ensures)) in
    rw (c.from-start.ensures, c.from.ensures) (answers_ok _ _ c.in_ok-label_refusal.ensures _ ∙ ap (answered _) e)
