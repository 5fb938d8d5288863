-- The worked sheets over what the calls answer, their questions included: each row of crate least's table, lent to Check as positions. Assumes nothing.
use Rattle.std.specs.Prelude.{length, Result, Ok}
use Rattle.least.specs.Worked.{Row, shown}
use Rattle.positions.specs.Written.{corners}
use Rattle.checker.specs.Checked.{answered, checked_of}
use Rattle.checker.specs.declared.Verdict.{Verdict}
use Rattle.plan.specs.declared.Refusal.{Refusal}

-- what Check answers to the placement of a row
unfoldable pub called : Row → Result Verdict Refusal
called r = checked_of r.table (corners (shown r) 0 (length r.table)) r.allowance

-- the row's own answer
unfoldable pub due : Row → Result Verdict Refusal
due r = Ok (answered r.answers)
