use mathlib.Core.Path.{refl}
use native.Mathlib.Omega.{arith}
use Rattle.plan.specs.Columns.{table_of}
use Rattle.plan.proofs.Laws.Tables.{count_few}
use Rattle.rules.specs.Placement.{placed}
use Rattle.pen.specs.Strokes.{strokes}
use Rattle.printing.proofs.Laws.Printing.{label_short}
use Rattle.svg.proofs.Laws.Drawing.{some-count, numbered, labels-start, labels-put, labels-done}
use Rattle.svg.proofs.put_labels.Goals as goal

pub loop-c-init : goal.loop-c-init
loop-c-init c = (refl, omega arith, labels-start (strokes (table_of c.args.t.now) (placed c.args.positions.now) c.args.page) c.args.file.now _ _)

pub overflow_mul-c : goal.overflow_mul-c
overflow_mul-c c = omega (arith, c.loop-c-test.true, count_few _ c.requires.0)

pub overflow_add-c : goal.overflow_add-c
overflow_add-c c = omega (arith, c.loop-c-test.true, count_few _ c.requires.0)

pub drawn-corner-requires : goal.drawn-corner-requires
drawn-corner-requires c = (c.requires.0, c.requires.1, numbered _ _ (omega (arith, c.loop-c-test.true, some-count _ c.requires.0)))

pub put_label-next-requires : goal.put_label-next-requires
put_label-next-requires c = let i = c.loop-c.invariant in (rw c.label.ensures.bytes (label_short _ _), omega (arith, c.requires.2, i.0, i.1, c.loop-c-test.true))

pub loop-c-preserved : goal.loop-c-preserved
loop-c-preserved c =
    let i = c.loop-c.invariant in
    let h = c.loop-c-test.true in
    (omega (arith, i.0), omega (arith, i.1, c.put_label-next.ensures.1), labels-put _ _ _ _ _ i.2 c.drawn-corner.ensures c.label.ensures.bytes c.put_label-next.ensures.0)

pub returns : goal.returns
returns c = let i = c.loop-c.invariant in (labels-done _ _ i.2 c.loop-c.auto.c-end c.loop-c-test.false, omega (arith, i.1, c.loop-c.auto.c-end))
