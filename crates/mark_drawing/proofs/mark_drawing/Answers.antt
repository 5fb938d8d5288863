use Prim.Native.Nat.{ℕ}
use lib.ListN.{length-replicate}
use Rattle.plan.specs.Columns.{table_of}
use Rattle.plan.specs.Limits.{scratch_size}
use Rattle.mark_drawing.proofs.Laws.Outcome.{outcome-wrong, outcome-marked, outcome-refused}
use Rattle.mark_drawing.proofs.mark_drawing.Goals as goal

pub returns-in_err-read_drawing : goal.returns-in_err-read_drawing
returns-in_err-read_drawing c = outcome-wrong c.args.t.count (table_of c.args.t) c.args.allowance c.args.text.now _ _ c.in_err-read_drawing.ensures _ c.from_residual.ensures.1

pub returns-in_err-mark : goal.returns-in_err-mark
returns-in_err-mark c =
    outcome-refused c.args.t.count (table_of c.args.t) c.args.allowance c.args.text.now _ _ c.in_ok-read_drawing.ensures _ _ (length-replicate {A = ℕ} scratch_size 0) _ c.in_err-mark.ensures _
    c.from_residual-in_err-mark.ensures.1

pub returns : goal.returns
returns c =
    outcome-marked c.args.t.count (table_of c.args.t) c.args.allowance c.args.text.now _ _ c.in_ok-read_drawing.ensures _ _ (length-replicate {A = ℕ} scratch_size 0) _ c.in_ok-mark.ensures
