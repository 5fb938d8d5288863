use mathlib.Core.Path.{sym}
use lib.Seq.{length-take-le}
use Rattle.plan.specs.Limits.{scratch_size}
use Rattle.fitting.proofs.Laws.Fitted.{refused, unrefused, done}
use Rattle.fitting.proofs.frame.Goals as goal

pub returns-in_err-frame_refusal : goal.returns-in_err-frame_refusal
returns-in_err-frame_refusal c = refused _ _ _ _ _ c.in_err-frame_refusal.ensures c.from_residual.ensures.1

pub slice_bounds-searched-end : goal.slice_bounds-searched-end
slice_bounds-searched-end c = (unrefused _ _ c.args.scratch.now _ c.in_ok-frame_refusal.ensures).1

pub slice_bounds-searched-end-2 : goal.slice_bounds-searched-end-2
slice_bounds-searched-end-2 c = sym (length-take-le scratch_size c.args.scratch.now (unrefused _ _ c.args.scratch.now _ c.in_ok-frame_refusal.ensures).1)

pub searched-requires : goal.searched-requires
searched-requires c =
    let a = unrefused _ _ c.args.scratch.now _ c.in_ok-frame_refusal.ensures in
    (a.0, length-take-le scratch_size c.args.scratch.now a.1)

pub returns : goal.returns
returns c = done _ _ _ _ c.in_ok-frame_refusal.ensures _ _ c.searched.ensures.0 c.searched.ensures.1
