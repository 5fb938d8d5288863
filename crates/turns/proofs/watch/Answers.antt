use Rattle.std.proofs.Common.{◌<◌, ℕ, List, length, refl, arith}
use Rattle.walk.specs.Falls.{Falls, fallen}
use Rattle.walk.proofs.Laws.Falls.{Fell, fall}
use Rattle.walk.proofs.Laws.Walked.{Keeps, keeps_start, keeps_turning, keeps_turn, keeps_less}
use Rattle.walk.specs.Turns.{stack_of, state_of}
use Rattle.walk.proofs.Laws.Turns.{stack_of-length}
use Rattle.walk.specs.Machine.{Chart, chart_of}
use Rattle.joining.specs.Joining.{memory_of}
use Rattle.turns.proofs.watch.Goals as goal

-- at the head of a turn, where a cell is open: the cells that the turn opens
falls : (b : Chart) (xs cells : List ℕ) (k n : ℕ) (rows marks : List ℕ) → 0 < k → Keeps b xs (state_of cells k n rows marks)
    → Fell b xs (memory_of rows marks) (stack_of cells k) n (fallen b.links 32 n (stack_of cells k)) × Falls b.links 32 (length (stack_of cells k)) n
falls b xs cells k n rows marks h i = fall b xs (memory_of rows marks) n (stack_of cells k) (rw (stack_of-length cells k) h) i

pub loop-at-init : goal.loop-at-init
loop-at-init g c =
    let a = c.args in
    let b = chart_of a.b.now in
    let (e, n) = c.begin-at.ensures.count_value in
    (keeps_start b a.rows.now a.marks.now c.requires _ _ _ e n, c.begin-at.ensures.begins b a.rows.now a.marks.now refl)

pub turn-at-requires-clause-falls : goal.turn-at-requires-clause-falls
turn-at-requires-clause-falls g c =
    let a = c.args in
    let l = c.loop-at in
    let (f, e) = falls (chart_of a.b.now) a.rows.now l.at.open_cells.cells l.at.open_cells.count l.at.next l.rows l.marks c.loop-at-test.true l.invariant.0 in
    rw (stack_of-length l.at.open_cells.cells l.at.open_cells.count) at e

pub turn-at-requires-clause-turning : goal.turn-at-requires-clause-turning
turn-at-requires-clause-turning g c =
    let a = c.args in
    let l = c.loop-at in
    let b = chart_of a.b.now in
    let (f, e) = falls b a.rows.now l.at.open_cells.cells l.at.open_cells.count l.at.next l.rows l.marks c.loop-at-test.true l.invariant.0 in
    keeps_turning b a.rows.now _ f.keeps f.some

pub loop-at-smaller : goal.loop-at-smaller
loop-at-smaller g c =
    let a = c.args in
    let l = c.loop-at in
    let b = chart_of a.b.now in
    let (f, e) = falls b a.rows.now l.at.open_cells.cells l.at.open_cells.count l.at.next l.rows l.marks c.loop-at-test.true l.invariant.0 in
    omega (arith, f.fewer, keeps_less b a.rows.now _ f.keeps f.some _ c.turn-at.ensures.marks_after)

pub loop-at-preserved : goal.loop-at-preserved
loop-at-preserved g c =
    let a = c.args in
    let l = c.loop-at in
    let b = chart_of a.b.now in
    let (f, e) = falls b a.rows.now l.at.open_cells.cells l.at.open_cells.count l.at.next l.rows l.marks c.loop-at-test.true l.invariant.0 in
    (keeps_turn b a.rows.now _ f.keeps f.some _ c.turn-at.ensures.marks_after, c.turn-at.ensures.onward _ l.invariant.1)
