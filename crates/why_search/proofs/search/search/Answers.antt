use Rattle.why_search.proofs.Laws.Explained.{searching_starts, searching_turns, searching_stops, searching_ends}
use native.Mathlib.Omega.{arith}
use Rattle.why_search.proofs.search.search.Goals as goal

pub first_marks-marks-requires : goal.first_marks-marks-requires
first_marks-marks-requires c = c.requires.0.few

pub loop-count-init : goal.loop-count-init
loop-count-init c = searching_starts _ _ _ _ _ _ c.first_marks-marks.ensures

pub ending-requires : goal.ending-requires
ending-requires c = c.requires.0.few

pub returns-in-Some : goal.returns-in-Some
returns-in-Some c = searching_stops _ _ _ _ _ _ _ _ c.loop-count.invariant c.loop-count-test.true c.in-Some.ensures

pub next_marks-marks-requires : goal.next_marks-marks-requires
next_marks-marks-requires c = let h = c.requires in (h.0, h.1, omega (arith, h.0.few, c.loop-count-test.true))

pub loop-count-preserved : goal.loop-count-preserved
loop-count-preserved c = searching_turns _ _ _ _ _ _ _ _ c.loop-count.invariant (omega (arith, c.loop-count-test.true)) c.in_default.ensures c.next_marks-marks.ensures

pub returns : goal.returns
returns c = searching_ends _ _ _ _ _ _ _ c.loop-count.invariant (omega (arith, c.loop-count-test.false))
