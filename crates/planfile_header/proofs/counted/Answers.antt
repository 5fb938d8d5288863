use Rattle.plan.proofs.Laws.Form.{sizes, records_short}
use borrow.Author.Tests.{lt-leb, le-leb}
use native.Mathlib.Omega.{arith}
use Rattle.planfile_header.proofs.counted.Goals as goal

pub returns-then-n-lt1 : goal.returns-then-n-lt1
returns-then-n-lt1 c = rw (lt-leb _ _ c.if-n-lt1.true)

pub returns-then-n-gt-MOST_CELLS : goal.returns-then-n-gt-MOST_CELLS
returns-then-n-gt-MOST_CELLS c = rw (le-leb _ _ c.if-n-lt1.false, lt-leb _ _ c.if-n-gt-MOST_CELLS.true)

pub overflow_mul-result : goal.overflow_mul-result
overflow_mul-result c = rw c.record_size.ensures (omega (arith, records_short _ c.args.n (sizes c.args.form).1, c.if-n-gt-MOST_CELLS.false))

pub overflow_add-result : goal.overflow_add-result
overflow_add-result c = rw c.record_size.ensures (omega (arith, records_short _ c.args.n (sizes c.args.form).1, c.if-n-gt-MOST_CELLS.false, c.requires))

pub overflow_add-result-2 : goal.overflow_add-result-2
overflow_add-result-2 c = rw c.record_size.ensures (omega (arith, records_short _ c.args.n (sizes c.args.form).1, c.if-n-gt-MOST_CELLS.false, c.requires))

pub returns : goal.returns
returns c = rw (le-leb _ _ c.if-n-lt1.false, le-leb _ _ c.if-n-gt-MOST_CELLS.false, c.record_size.ensures)
