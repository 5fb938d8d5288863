use Rattle.walk.specs.Falls.{Falls, fallen}
use Rattle.walk.proofs.Laws.Falls.{Fell, fall}
use Rattle.walk.proofs.Laws.Visits.{visited}
use Rattle.walk.proofs.Laws.Walked.{keeps_start, keeps_turning, keeps_turn, keeps_less, keeps_end}
use Rattle.walk.specs.Turns.{state_of}
use Rattle.walk.proofs.Laws.Turns.{stack_of-length}
use Rattle.walk.specs.Machine.{Chart, chart_of, State}
use Rattle.joining.specs.Joining.{memory_of}
use lib.ListN.{length}
use mathlib.Core.Path.{◌≡◌, refl, ◌∙◌}
use Prim.Native.Nat.{◌<◌}
use native.Mathlib.Omega.{arith}
use Rattle.walk.proofs.walk.Goals as goal
use Rattle.walk.proofs.walk.Goals.{At-loop-at, Start}

-- the walk at the head of a turn, that a cell is open there, and the cells that the turn opens
abbrev board : Start → Chart
board s = chart_of s.args.b.now

abbrev state : At-loop-at → State
state l = state_of l.loop-at.at.open_cells.cells l.loop-at.at.open_cells.count l.loop-at.at.next l.loop-at.rows l.loop-at.marks

some : (l : At-loop-at) → 0 < l.loop-at.at.open_cells.count → 0 < length (state l).stack
some l h = rw (stack_of-length l.loop-at.at.open_cells.cells l.loop-at.at.open_cells.count) h

abbrev board-at : At-loop-at → Chart
board-at l = chart_of l.args.b.now

falls : (l : At-loop-at) → 0 < l.loop-at.at.open_cells.count
    → Fell (board-at l) l.args.rows.now (state l).memory (state l).stack (state l).next (fallen l.args.b.now.links.now 32 (state l).next (state l).stack)
    × Falls l.args.b.now.links.now 32 (length (state l).stack) (state l).next
falls l h = fall (board-at l) l.args.rows.now (state l).memory (state l).next (state l).stack (some l h) l.loop-at.invariant.0

pub begin-at-requires : goal.begin-at-requires
begin-at-requires c = omega (arith, c.requires.suits.links.size)

pub loop-at-init : goal.loop-at-init
loop-at-init c =
    let (e, n) = c.begin-at.ensures.count_value in
    (keeps_start (board (goal.at.loop-at-init c).Start) c.args.rows.now c.args.marks.now c.requires _ _ _ e n, c.begin-at.ensures.begins (board (goal.at.loop-at-init c).Start) c.args.rows.now c.args.marks.now refl, refl, refl)

pub turn-at-requires : goal.turn-at-requires
turn-at-requires c =
    let l = c.loop-at in
    let (f, g) = falls (goal.at.turn-at-requires c).At-loop-at c.loop-at-test.true in
    record { count_nonzero = c.loop-at-test.true; falls = rw (stack_of-length l.at.open_cells.cells l.at.open_cells.count) at g; turning = keeps_turning (board (goal.at.turn-at-requires c).Start) c.args.rows.now _ f.keeps f.some; underway = record { from = _; visiting = l.invariant.1 } }

pub loop-at-smaller : goal.loop-at-smaller
loop-at-smaller c =
    let (f, g) = falls (goal.at.loop-at-smaller c).At-loop-at c.loop-at-test.true in
    omega (arith, f.fewer, keeps_less (board (goal.at.loop-at-smaller c).Start) c.args.rows.now _ f.keeps f.some _ c.turn-at.ensures.marks_after)

pub loop-at-preserved : goal.loop-at-preserved
loop-at-preserved c =
    let (f, g) = falls (goal.at.loop-at-preserved c).At-loop-at c.loop-at-test.true in
    (keeps_turn (board (goal.at.loop-at-preserved c).Start) c.args.rows.now _ f.keeps f.some _ c.turn-at.ensures.marks_after, c.turn-at.ensures.onward _ c.loop-at.invariant.1, c.turn-at.auto.rows ∙ c.loop-at.invariant.2, c.turn-at.auto.marks ∙ c.loop-at.invariant.3)

pub shape_of-rows : goal.shape_of-rows
shape_of-rows c = c.loop-at.invariant.2

pub shape_of-marks : goal.shape_of-marks
shape_of-marks c = c.loop-at.invariant.3

pub returns : goal.returns
returns c =
    let l = c.loop-at in
    let none : l.at.open_cells.count ≡ 0 = omega (arith, c.loop-at-test.false) in
    record { walked = keeps_end (board (goal.at.returns c).Start) c.args.rows.now (state (goal.at.returns c).At-loop-at) l.invariant.0 (stack_of-length l.at.open_cells.cells l.at.open_cells.count ∙ none); visited = visited (board (goal.at.returns c).Start) (memory_of c.args.rows.now c.args.marks.now) l.invariant.1 none }
