use mathlib.Core.Path.{refl}
use native.Mathlib.Omega.{arith}
use Rattle.plan.specs.Columns.{table_of}
use Rattle.plan.proofs.Laws.Tables.{count_few}
use Rattle.rules.specs.Placement.{placed}
use Rattle.pen.specs.Strokes.{strokes}
use Rattle.svg.proofs.Laws.Drawing.{some-count, many_is, within, beyond, numbered, strokes-start, strokes-put, strokes-done}
use Rattle.svg.proofs.put_strokes.Goals as goal

pub overflow_mul-s-end : goal.overflow_mul-s-end
overflow_mul-s-end c = omega (arith, count_few _ c.requires.0)

pub overflow_sub-s-end : goal.overflow_sub-s-end
overflow_sub-s-end c = omega (arith, some-count _ c.requires.0)

pub loop-s-init : goal.loop-s-init
loop-s-init c = (refl, omega arith, strokes-start (strokes (table_of c.args.t.now) (placed c.args.positions.now) c.args.page) _ _)

pub drawn-requires : goal.drawn-requires
drawn-requires c = (c.requires.0, c.requires.1, numbered _ _ c.loop-s-test.true)

pub put_stroke-next-requires : goal.put_stroke-next-requires
put_stroke-next-requires c = let i = c.loop-s.invariant in omega (arith, c.requires.2, i.0, i.1, c.loop-s-test.true)

pub loop-s-preserved : goal.loop-s-preserved
loop-s-preserved c =
    let i = c.loop-s.invariant in
    let h = c.loop-s-test.true in
    (omega (arith, i.0), omega (arith, i.1, c.put_stroke-next.ensures.1), strokes-put _ _ i.2 (within (many_is _ c.requires.0 (placed c.args.positions.now) c.args.page) h) c.drawn.ensures c.put_stroke-next.ensures.0)

pub returns : goal.returns
returns c =
    let i = c.loop-s.invariant in
    (strokes-done _ i.2 (beyond (many_is _ c.requires.0 (placed c.args.positions.now) c.args.page) c.loop-s-test.false), omega (arith, i.1, c.loop-s.auto.s-end))
