use borrow.Author.Rules.{rules}
use mathlib.Core.Path.{◌≡◌}
use Prim.Native.Nat.{◌+◌, ◌-◌}
use native.Mathlib.Omega.{arith}
use Rattle.walk.proofs.Laws.Falls.{turn_found, visiting_turn}
use Rattle.walk.specs.Turns.{state_of}
use Rattle.walk.specs.Machine.{Chart, chart_of, Turning}
use Rattle.walk.proofs.turn.Goals as goal
use Rattle.walk.proofs.turn.Goals.{Start}

abbrev board : Start → Chart
board s = chart_of s.args.b.now

pub descend-level-requires : goal.descend-level-requires
descend-level-requires c = record { cells_len = search rules; falls = c.requires.falls }

pub shut-n-requires : goal.shut-n-requires
shut-n-requires c =
    let d = c.descend-level in
    let a = c.args in
    let t : Turning (board (goal.at.shut-n-requires c).Start) (state_of _ d.result 0 a.rows.now a.marks.now) = rw (← d.ensures.result_after) at c.requires.turning in
    let e : d.result ≡ d.result - 1 + 1 = omega (arith, c.requires.count_nonzero, d.ensures.lower_bound) in
    rw e at t

pub returns : goal.returns
returns c =
    let d = c.descend-level in
    let q = turn_found (board (goal.at.returns c).Start) _ d.result c.args.rows.now c.args.marks.now (omega (arith, c.requires.count_nonzero, d.ensures.lower_bound)) d.ensures.result_after c.shut-n.ensures in
    record { marks_after = q; onward = λ m v. visiting_turn (board (goal.at.returns c).Start) m c.requires.falls v _ _ _ _ _ q }
