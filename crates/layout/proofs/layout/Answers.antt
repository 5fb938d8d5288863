use mathlib.Core.Path.{sym}
use lib.Seq.{length-take-le}
use Rattle.plan.specs.Limits.{scratch_size}
use Rattle.layout.proofs.Laws.Laid.{refused, asks, laid}
use Rattle.layout.proofs.layout.Goals as goal

pub returns-in_err-layout_refusal : goal.returns-in_err-layout_refusal
returns-in_err-layout_refusal c = refused _ _ _ _ _ _ c.in_err-layout_refusal.ensures c.from_residual.ensures.1

pub slice_bounds-draw-end : goal.slice_bounds-draw-end
slice_bounds-draw-end c = (asks _ _ c.args.scratch.now c.args.positions.now _ c.in_ok-layout_refusal.ensures).scratch

pub slice_bounds-draw-end-2 : goal.slice_bounds-draw-end-2
slice_bounds-draw-end-2 c = sym (length-take-le scratch_size c.args.scratch.now (asks _ _ c.args.scratch.now c.args.positions.now _ c.in_ok-layout_refusal.ensures).scratch)

pub draw-requires : goal.draw-requires
draw-requires c =
    let a = asks _ _ c.args.scratch.now c.args.positions.now _ c.in_ok-layout_refusal.ensures in
    record { fit = a.table.fit; room = a.positions; scratch = length-take-le scratch_size c.args.scratch.now a.scratch }

pub returns : goal.returns
returns c = laid _ _ _ _ _ c.in_ok-layout_refusal.ensures _ _ _ c.draw.ensures
