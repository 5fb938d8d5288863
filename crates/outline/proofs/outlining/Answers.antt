use Rattle.outline_line.proofs.Laws.Written.{put-length}
use Rattle.planfile_spec.specs.Read.{reading}
use Rattle.planfile_spec.specs.declared.Trailer.{Trailer}
use Rattle.planfile_spec.proofs.Laws.Answer.{read_plan}
use lib.Seq.{length-take-le}
use lib.ListN.{take}
use mathlib.Core.Path.{refl, sym, ap, ◌∙◌}
use native.Mathlib.Omega.{arith}
use Rattle.outline.proofs.Laws.Outlined.{outline-refused, outline_ready, outline-written, outline-long, outline-begin}
use Rattle.outline.proofs.outlining.Goals as goal

pub returns-in_err-plan : goal.returns-in_err-plan
returns-in_err-plan c = outline-refused c.args.file.now _ _ _ c.in_err-plan.ensures c.from_residual.ensures.1

pub trailer-end-requires : goal.trailer-end-requires
trailer-end-requires c = outline-long c.args.file.now (reading c.in_ok-plan.plan) (read_plan _ _ _ c.in_ok-plan.ensures) refl

pub slice_bounds-put_cells-end : goal.slice_bounds-put_cells-end
slice_bounds-put_cells-end c =
    let h = outline-begin c.args.file.now (reading c.in_ok-plan.plan) (read_plan _ _ _ c.in_ok-plan.ensures) refl in
    sym (length-take-le _ _ (rw (c.from-begin.ensures, c.trailer-end.ensures) h))

pub put_cells-requires : goal.put_cells-requires
put_cells-requires c = (
  outline_ready c.args.file.now (reading c.in_ok-plan.plan) (read_plan _ _ _ c.in_ok-plan.ensures) refl (λ i. omega (arith, c.type_inv.file i)) _ (rw c.from-begin.ensures (ap (λ (x : Trailer). take x.begin c.args.file.now) c.trailer-end.ensures)),
  omega (arith, put-length c.put_first-at.ensures.0, c.put_first-at.ensures.1, c.requires),
)

pub shape_of-out : goal.shape_of-out
shape_of-out c = put-length c.put_cells.ensures ∙ put-length c.put_first-at.ensures.0

pub returns : goal.returns
returns c =
    outline-written c.args.file.now (reading c.in_ok-plan.plan) (read_plan _ _ _ c.in_ok-plan.ensures) refl (λ i. omega (arith, c.type_inv.file i)) _ _ _ _ _ _ _ (rw c.from-begin.ensures (ap (λ (x : Trailer). take x.begin c.args.file.now) c.trailer-end.ensures)) c.from.ensures c.requires c.put_first-at.ensures.0 c.put_first-at.ensures.1 c.put_cells.ensures
