use mathlib.Core.Path.{sym, ap, ◌∙◌}
use Prim.Native.Nat.{ℕ}
use native.Mathlib.Omega.{arith}
use lib.ListN.{replicate}
use lib.Seq.{length-take-le}
use Rattle.std.specs.Prelude.{Ok}
use Rattle.plan.specs.Limits.{scratch_size}
use Rattle.plan.specs.Columns.{table_of}
use Rattle.mark_spec.proofs.Laws.Marked.{short, long, judged_fit, kept, broken, refused}
use Rattle.mark.proofs.mark.Goals as goal

-- the scratch is too short
pub returns-in_err-asked : goal.returns-in_err-asked
returns-in_err-asked c =
    let a = c.args in
    short (table_of a.t) a.positions.now a.allowance a.scratch.now _ _ (c.in_err-asked.ensures.numbered (omega arith)) c.from_residual.ensures.1

-- Check refuses
pub returns-in_err-sheet : goal.returns-in_err-sheet
returns-in_err-sheet c =
    let a = c.args in
    refused (table_of a.t) a.positions.now a.allowance a.scratch.now (long (table_of a.t) a.positions.now a.allowance a.scratch.now _ (c.in_ok-asked.ensures.numbered (omega arith))) _ _ c.in_err-sheet.ensures c.from_residual-in_err-sheet.ensures.1

pub slice_bounds-graded-end : goal.slice_bounds-graded-end
slice_bounds-graded-end c =
    let a = c.args in
    long (table_of a.t) a.positions.now a.allowance a.scratch.now _ (c.in_ok-asked.ensures.numbered (omega arith))

pub slice_bounds-graded-end-in-Kept : goal.slice_bounds-graded-end-in-Kept
slice_bounds-graded-end-in-Kept c =
    let a = c.args in
    sym (length-take-le scratch_size a.scratch.now (long (table_of a.t) a.positions.now a.allowance a.scratch.now _ (c.in_ok-asked.ensures.numbered (omega arith))))

pub graded-requires : goal.graded-requires
graded-requires c =
    let a = c.args in
    (judged_fit (table_of a.t) a.positions.now a.allowance a.scratch.now _ c.in_ok-sheet.ensures, length-take-le scratch_size a.scratch.now (long (table_of a.t) a.positions.now a.allowance a.scratch.now _ (c.in_ok-asked.ensures.numbered (omega arith))))

pub slice_bounds-fill-end : goal.slice_bounds-fill-end
slice_bounds-fill-end c =
    let a = c.args in
    long (table_of a.t) a.positions.now a.allowance a.scratch.now _ (c.in_ok-asked.ensures.numbered (omega arith))

pub slice_bounds-fill-end-in-Broken : goal.slice_bounds-fill-end-in-Broken
slice_bounds-fill-end-in-Broken c =
    let a = c.args in
    sym (length-take-le scratch_size a.scratch.now (long (table_of a.t) a.positions.now a.allowance a.scratch.now _ (c.in_ok-asked.ensures.numbered (omega arith))))

pub returns-in-Kept : goal.returns-in-Kept
returns-in-Kept c =
    let a = c.args in
    let e = c.graded.ensures in
    kept (table_of a.t) a.positions.now a.allowance a.scratch.now (long (table_of a.t) a.positions.now a.allowance a.scratch.now _ (c.in_ok-asked.ensures.numbered (omega arith))) _ (ap Ok (sym c.in-Kept.is) ∙ c.in_ok-sheet.ensures) _ e.0 _ e.1

pub returns-in-Broken : goal.returns-in-Broken
returns-in-Broken c =
    let a = c.args in
    let n = long (table_of a.t) a.positions.now a.allowance a.scratch.now _ (c.in_ok-asked.ensures.numbered (omega arith)) in
    broken (table_of a.t) a.positions.now a.allowance a.scratch.now n _ (ap Ok (sym c.in-Broken.is) ∙ c.in_ok-sheet.ensures) _ (c.fill.ensures.after (λ y e. e) ∙ ap (λ (k : ℕ). replicate k 0) (length-take-le scratch_size a.scratch.now n))
