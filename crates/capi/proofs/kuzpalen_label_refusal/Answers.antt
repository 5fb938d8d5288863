use mathlib.Core.Path.{sym, ap}
use Rattle.plan.specs.declared.Refusal.{Refusal}
use Rattle.plan.proofs.Laws.Answered.{passes, refused_by}
use Rattle.capi.proofs.Label.{label-none}
use Rattle.capi.proofs.kuzpalen_label_refusal.Goals as goal

pub returns-in-Ok : goal.returns-in-Ok
returns-in-Ok c =
    let e = label-none c.args.file.now c.args.cell (passes _ _ c.in-Ok.ensures) in
    (sym (ap (λ (r : Refusal). r.number) e), sym (ap (λ (r : Refusal). r.cell) e))

pub returns-in-Err : goal.returns-in-Err
returns-in-Err c =
    let e = (refused_by _ _ _ c.in-Err.ensures).0 in
    (ap (λ (r : Refusal). r.number) e, ap (λ (r : Refusal). r.cell) e)
