use mathlib.Core.Path.{◌≡◌}
use Prim.Native.Nat.{ℕ, ◌+◌, ◌-◌, ◌<◌}
use native.Mathlib.Omega.{arith}
use lib.ListN.{get_or}
use Rattle.joining.specs.Joining.{memory_of}
use Rattle.walk.specs.Machine.{Chart, chart_of, Closing, Ending}
use Rattle.walk.proofs.Laws.Turns.{turn_close, turn_end, shut_two, shut_one, turn_some}
use Rattle.walk.proofs.shut.Goals as goal
use Rattle.walk.proofs.shut.Goals.{Start}

-- what the requirement says of the level, of the root, and of a cell below it
abbrev board : Start → Chart
board s = chart_of s.args.b.now

within : (s : Start) → s.args.level < 32
within s =
    let a = s.args in
    let so = turn_some (board s) a.cells.now (a.level + 1) a.rows.now a.marks.now s.requires in
    omega arith

ending : (s : Start) → s.args.level ≡ 0 → Ending (board s) (memory_of s.args.rows.now s.args.marks.now)
ending s e = let a = s.args in shut_one (board s) a.cells.now a.level a.rows.now a.marks.now s.requires e

closing : (s : Start) {c f : ℕ} → 0 < s.args.level → c ≡ get_or s.args.cells.now s.args.level 0 → f ≡ get_or s.args.cells.now (s.args.level - 1) 0
    → Closing (board s) (s.args.level - 1) f c s.args.rows.now s.args.marks.now
closing s lt ec ef = let a = s.args in shut_two (board s) a.cells.now a.level a.rows.now a.marks.now s.requires lt ec ef

pub finish_root-requires : goal.finish_root-requires
finish_root-requires c = rw c.from.ensures (ending (goal.at.finish_root-requires c).Start c.if-level-eq0.true).rooting

pub returns-then-level-eq0 : goal.returns-then-level-eq0
returns-then-level-eq0 c =
    let a = c.args in
    turn_end (board (goal.at.returns-then-level-eq0 c).Start) a.cells.now a.level a.rows.now a.marks.now c.if-level-eq0.true c.from.ensures c.from-then-level-eq0.ensures c.finish_root.ensures

pub offset_bounds-cells-level : goal.offset_bounds-cells-level
offset_bounds-cells-level c = omega (arith, within (goal.at.offset_bounds-cells-level c).Start)

pub bounds-cells-level : goal.bounds-cells-level
bounds-cells-level c = omega (arith, within (goal.at.bounds-cells-level c).Start)

pub offset_bounds-cells-level-2 : goal.offset_bounds-cells-level-2
offset_bounds-cells-level-2 c = omega (arith, within (goal.at.offset_bounds-cells-level-2 c).Start)

pub bounds-cells-level-2 : goal.bounds-cells-level-2
bounds-cells-level-2 c = omega (arith, within (goal.at.bounds-cells-level-2 c).Start)

pub close-requires : goal.close-requires
close-requires c = closing (goal.at.close-requires c).Start (omega (arith, c.if-level-eq0.false)) c.from-c.ensures c.from-f.ensures

pub link_of-requires : goal.link_of-requires
link_of-requires c = ((closing (goal.at.link_of-requires c).Start (omega (arith, c.if-level-eq0.false)) c.from-c.ensures c.from-f.ensures).links, omega arith)

pub returns : goal.returns
returns c =
    let a = c.args in
    turn_close (board (goal.at.returns c).Start) a.cells.now a.level a.rows.now a.marks.now (omega (arith, c.if-level-eq0.false)) c.from-c.ensures c.from-f.ensures c.link_of.ensures c.close.ensures.marks_after
