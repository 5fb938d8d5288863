use mathlib.Core.Path.{refl}
use native.Mathlib.Omega.{arith}
use Rattle.printing.proofs.Laws.Taken.{put-no-cells, put-cell, cells-done}
use borrow.Author.Rules.{rules}
use Rattle.printing.proofs.put_cells.Goals as goal

pub loop-c-init : goal.loop-c-init
loop-c-init c = (refl, omega arith, put-no-cells _ _ _ _)

pub line_at-line-requires : goal.line_at-line-requires
line_at-line-requires c = (omega arith, c.requires.0, c.requires.1)

pub put_line-next-requires : goal.put_line-next-requires
put_line-next-requires c =
    let i = c.loop-c.invariant in
    let r = c.requires.2 in
    let m = c.line_at-line.ensures.1 in
    let t = c.loop-c-test.true in
    (record { long = search rules; inside = omega (arith, m) }, omega (arith, i.0, i.1, r, m, t))

pub loop-c-preserved : goal.loop-c-preserved
loop-c-preserved c =
    let i = c.loop-c.invariant in
    let g = put-cell _ _ _ _ i.2 c.line_at-line.ensures.0 c.line_at-line.ensures.1 c.put_line-next.ensures in
    (omega (arith, i.0), omega (arith, g.0, i.1), g.1)

pub returns : goal.returns
returns c =
    let i = c.loop-c.invariant in
    (cells-done _ _ i.2 c.loop-c.auto.c-end c.loop-c-test.false, omega (arith, i.1, c.loop-c.auto.c-end, c.loop-c-test.false))
