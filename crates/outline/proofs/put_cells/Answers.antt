use mathlib.Core.Path.{◌≡◌}
use native.Mathlib.Omega.{arith}
use Rattle.outline_line.proofs.Laws.Written.{put-length}
use Rattle.outline.proofs.Laws.Cells.{wrote_none, low-next, room-next, wrote_next}
use Rattle.outline.proofs.put_cells.Goals as goal

pub loop-c-init : goal.loop-c-init
loop-c-init c = wrote_none _ _ _

pub put_cell-at-requires : goal.put_cell-at-requires
put_cell-at-requires c = room-next c.args.t.now c.args.letters.now c.requires.0 c.loop-c.c c.loop-c-test.true c.loop-c.invariant _ _ _ c.record_at-cell.ensures c.from.ensures c.level_under-level.ensures _ _ c.from-start.ensures c.from-in-loop-c.ensures c.requires.1

pub overflow_cast-levels : goal.overflow_cast-levels
overflow_cast-levels c = omega (arith, low-next c.args.t.now c.args.letters.now c.requires.0 c.loop-c.c c.loop-c-test.true c.loop-c.invariant _ _ _ c.record_at-cell.ensures c.from.ensures c.level_under-level.ensures)

pub loop-c-preserved : goal.loop-c-preserved
loop-c-preserved c = wrote_next c.args.t.now c.args.letters.now c.requires.0 c.loop-c.c c.loop-c-test.true c.loop-c.invariant _ _ _ c.record_at-cell.ensures c.from.ensures c.level_under-level.ensures _ _ c.from-start.ensures c.from-in-loop-c.ensures c.put_cell-at.ensures

pub shape_of-out : goal.shape_of-out
shape_of-out c = put-length c.loop-c.invariant.text

pub returns : goal.returns
returns c = let e : c.loop-c.c ≡ c.args.t.now.columns.count = omega arith in rw e at c.loop-c.invariant.text
