use mathlib.Core.Path.{refl, sym, ap}
use lib.ListN.{take}
use lib.Seq.{length-take-le}
use Rattle.planfile_spec.specs.declared.Trailer.{Trailer}
use Rattle.planfile_spec.specs.Read.{reading}
use Rattle.planfile_spec.proofs.Laws.Answer.{read_plan}
use Rattle.copying.proofs.Laws.Cleaned.{clean-refused, clean-long, clean-begin, clean_copied}
use Rattle.copying.proofs.clean.Goals as goal

pub returns-in_err-plan : goal.returns-in_err-plan
returns-in_err-plan c = clean-refused c.args.file.now _ _ _ c.in_err-plan.ensures c.from_residual.ensures.1

pub trailer-end-requires : goal.trailer-end-requires
trailer-end-requires c = clean-long c.args.file.now _ (read_plan _ _ _ c.in_ok-plan.ensures) refl

pub slice_bounds-copy-end : goal.slice_bounds-copy-end
slice_bounds-copy-end c =
    let h = clean-begin c.args.file.now _ (read_plan _ _ _ c.in_ok-plan.ensures) refl in
    sym (length-take-le _ _ (rw c.trailer-end.ensures h))

pub returns : goal.returns
returns c =
    let f = c.args.file.now in
    clean_copied f (reading c.in_ok-plan.plan) (read_plan _ _ _ c.in_ok-plan.ensures) refl _ _ (ap (λ (x : Trailer). take x.begin f) c.trailer-end.ensures) c.from.ensures _ _ _ c.requires c.copy.ensures
