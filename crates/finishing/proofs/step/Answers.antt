use mathlib.Core.Path.{sym}
use lib.Seq.{length-take-le}
use Rattle.plan.specs.Limits.{scratch_size, second_size}
use Rattle.plan.specs.Columns.{table_of}
use Rattle.plan.proofs.Laws.Answered.{passes}
use Rattle.finishing_step.proofs.Laws.Stepping.{step-refused, step-asks, step-taken}
use Rattle.finishing.proofs.step.Goals as goal

pub returns-in_err-step_refusal : goal.returns-in_err-step_refusal
returns-in_err-step_refusal c =
    step-refused (table_of c.args.t.now) c.args.allowance c.args.scratch.now c.args.second.now c.args.positions.now _ _ c.in_err-step_refusal.ensures c.from_residual.ensures.1

-- a step that no question refuses: the first numbers of each scratch,
-- which has at least as many as the questions asked for
pub slice_bounds-advance-end : goal.slice_bounds-advance-end
slice_bounds-advance-end c = (step-asks (table_of c.args.t.now) c.args.allowance c.args.scratch.now c.args.second.now c.args.positions.now (passes _ _ c.in_ok-step_refusal.ensures)).1

pub slice_bounds-advance-end-2 : goal.slice_bounds-advance-end-2
slice_bounds-advance-end-2 c = sym (length-take-le scratch_size c.args.scratch.now (step-asks (table_of c.args.t.now) c.args.allowance c.args.scratch.now c.args.second.now c.args.positions.now (passes _ _ c.in_ok-step_refusal.ensures)).1)

pub slice_bounds-advance-end-3 : goal.slice_bounds-advance-end-3
slice_bounds-advance-end-3 c = (step-asks (table_of c.args.t.now) c.args.allowance c.args.scratch.now c.args.second.now c.args.positions.now (passes _ _ c.in_ok-step_refusal.ensures)).2

pub slice_bounds-advance-end-4 : goal.slice_bounds-advance-end-4
slice_bounds-advance-end-4 c = sym (length-take-le second_size c.args.second.now (step-asks (table_of c.args.t.now) c.args.allowance c.args.scratch.now c.args.second.now c.args.positions.now (passes _ _ c.in_ok-step_refusal.ensures)).2)

pub advance-told-requires : goal.advance-told-requires
advance-told-requires c =
    let (fit, long, second, room) = step-asks (table_of c.args.t.now) c.args.allowance c.args.scratch.now c.args.second.now c.args.positions.now (passes _ _ c.in_ok-step_refusal.ensures) in
    (record { fit = fit; scratch = length-take-le scratch_size c.args.scratch.now long; marks = length-take-le second_size c.args.second.now second }, room)

-- what `advance` says of the first numbers, said of all that was lent:
-- the numbers behind them are as they were
pub returns : goal.returns
returns c = step-taken (table_of c.args.t.now) c.args.allowance c.args.scratch.now c.args.second.now c.args.positions.now (passes _ _ c.in_ok-step_refusal.ensures) c.advance-told.ensures
