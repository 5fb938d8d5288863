use lib.Seq.{length-take-le}
use mathlib.Core.Path.{sym}
use Rattle.plan.specs.Limits.{scratch_size, second_size}
use Rattle.plan.specs.Columns.{table_of}
use Rattle.plan.proofs.Laws.Answered.{passes}
use Rattle.finishing_asks.proofs.Laws.Asks.{start-asks}
use Rattle.finishing.proofs.Laws.Finishing.{start-refused, start-done}
use Rattle.finishing.proofs.start.Goals as goal

pub returns-in_err-start_refusal : goal.returns-in_err-start_refusal
returns-in_err-start_refusal c =
    start-refused (table_of c.args.t.now) c.args.allowance c.args.scratch.now c.args.second.now _ _ c.in_err-start_refusal.ensures c.from_residual.ensures.1

pub slice_bounds-fill-end : goal.slice_bounds-fill-end
slice_bounds-fill-end c = (start-asks (table_of c.args.t.now) c.args.allowance c.args.scratch.now c.args.second.now (passes _ _ c.in_ok-start_refusal.ensures)).1

pub slice_bounds-fill-end-2 : goal.slice_bounds-fill-end-2
slice_bounds-fill-end-2 c =
    sym (length-take-le scratch_size c.args.scratch.now (start-asks (table_of c.args.t.now) c.args.allowance c.args.scratch.now c.args.second.now (passes _ _ c.in_ok-start_refusal.ensures)).1)

pub slice_bounds-fill-end-3 : goal.slice_bounds-fill-end-3
slice_bounds-fill-end-3 c = (start-asks (table_of c.args.t.now) c.args.allowance c.args.scratch.now c.args.second.now (passes _ _ c.in_ok-start_refusal.ensures)).2

pub slice_bounds-fill-end-4 : goal.slice_bounds-fill-end-4
slice_bounds-fill-end-4 c =
    sym (length-take-le second_size c.args.second.now (start-asks (table_of c.args.t.now) c.args.allowance c.args.scratch.now c.args.second.now (passes _ _ c.in_ok-start_refusal.ensures)).2)

pub returns : goal.returns
returns c = start-done (table_of c.args.t.now) c.args.allowance c.args.scratch.now c.args.second.now (passes _ _ c.in_ok-start_refusal.ensures) (c.fill.ensures.after (λ y e. e)) (c.fill-2.ensures.after (λ y e. e))
