use mathlib.Core.Path.{sym}
use native.Mathlib.Omega.{arith}
use lib.ListN.{length}
use lib.Seq.{length-take-le}
use Rattle.plan.specs.Limits.{scratch_size}
use Rattle.reporting.proofs.Laws.Reporting.{scratch-enough, plan_few, drawable, measures_small, refused, unrefused, reported}
use Rattle.reporting.proofs.report.Goals as goal

pub returns-in_err-plan : goal.returns-in_err-plan
returns-in_err-plan c = refused c.args.file.now c.args.room c.args.scratch.now c.args.positions.now _ _ c.in_err-plan.ensures c.from_residual.ensures.1

pub slice_bounds-draw-end : goal.slice_bounds-draw-end
slice_bounds-draw-end c =
    let u = unrefused c.args.file.now c.args.room c.args.scratch.now c.args.positions.now _ c.in_ok-plan.ensures in
    scratch-enough c.args.file.now c.args.room (length c.args.scratch.now) (length c.args.positions.now) u.0

pub slice_bounds-draw-end-2 : goal.slice_bounds-draw-end-2
slice_bounds-draw-end-2 c =
    let u = unrefused c.args.file.now c.args.room c.args.scratch.now c.args.positions.now _ c.in_ok-plan.ensures in
    sym (length-take-le scratch_size c.args.scratch.now (scratch-enough c.args.file.now c.args.room (length c.args.scratch.now) (length c.args.positions.now) u.0))

pub draw-drawn-requires : goal.draw-drawn-requires
draw-drawn-requires c =
    let u = unrefused c.args.file.now c.args.room c.args.scratch.now c.args.positions.now _ c.in_ok-plan.ensures in
    let enough = scratch-enough c.args.file.now c.args.room (length c.args.scratch.now) (length c.args.positions.now) u.0 in
    drawable c.args.file.now c.args.room (length c.args.scratch.now) (length c.args.positions.now) u.0 _ u.1 _ (length-take-le scratch_size c.args.scratch.now enough)

pub overflow_cast-columns : goal.overflow_cast-columns
overflow_cast-columns c =
    let u = unrefused c.args.file.now c.args.room c.args.scratch.now c.args.positions.now _ c.in_ok-plan.ensures in
    record { fits = omega (arith, plan_few c.args.file.now c.args.room (length c.args.scratch.now) (length c.args.positions.now) u.0 _ u.1) }

pub single-report-requires : goal.single-report-requires
single-report-requires c =
    let u = unrefused c.args.file.now c.args.room c.args.scratch.now c.args.positions.now _ c.in_ok-plan.ensures in
    measures_small c.args.file.now c.args.room (length c.args.scratch.now) (length c.args.positions.now) u.0 _ u.1 _ _ _ _ (rw c.from-allowance.ensures at c.draw-drawn.ensures)

pub returns : goal.returns
returns c =
    reported c.args.file.now c.args.room c.args.scratch.now c.args.positions.now _ c.in_ok-plan.ensures _ _ _ (rw c.from-allowance.ensures at c.draw-drawn.ensures) _ c.single-report.ensures
