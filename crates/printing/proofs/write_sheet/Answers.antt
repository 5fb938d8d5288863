use native.Mathlib.Omega.{arith}
use Rattle.printing.proofs.Laws.Printing.{drawn_measured, drawn_placed}
use Rattle.printing.proofs.Laws.Taken.{taken_few, taken_drawable, put_short, sheet-done}
use borrow.Author.Rules.{rules}
use Rattle.printing.proofs.write_sheet.Goals as goal

pub draw_over_zeros-drawn-requires : goal.draw_over_zeros-drawn-requires
draw_over_zeros-drawn-requires c = (taken_drawable _ _ c.requires.0 _ _ (search rules) (omega arith), search rules)

pub first_line-first-requires : goal.first_line-first-requires
first_line-first-requires c = drawn_measured _ (taken_few _ _ c.requires.0) c.draw_over_zeros-drawn.ensures

pub put_cells-requires : goal.put_cells-requires
put_cells-requires c =
    let h = c.requires in
    let n = taken_few _ _ h.0 in
    let k = put_short _ c.put_line-next.ensures c.first_line-first.ensures.1 in
    (h.0, drawn_placed _ n c.draw_over_zeros-drawn.ensures (omega (arith, c.draw_over_zeros-drawn.auto)), omega (arith, h.1, n, k))

pub returns : goal.returns
returns c =
    let h = c.requires in
    let n = taken_few _ _ h.0 in
    let k = put_short _ c.put_line-next.ensures c.first_line-first.ensures.1 in
    let e = c.put_cells.ensures in
    (sheet-done _ _ h.0 _ c.first_line-first.ensures.0 c.put_line-next.ensures e.0, omega (arith, e.1, n, k))
