-- THE ALLOWANCE THAT FITS THE FRAME (document 02, E2): the answer as a definition, and what it means. Assumes nothing.
use Rattle.std.specs.Prelude.{Bool, cond, ℕ, zero, suc, ◌+◌, ◌≤◌, ◌<◌, pos, ◌≤ℤ◌, ◌<ℤ◌}
use Rattle.std.specs.Int.Signed.{le_z}
use Rattle.plan.specs.Limits.{most_allowance}
use Rattle.plan.specs.Plan.{Table}
use Rattle.rules.specs.Placement.{width}
use Rattle.contours.specs.Sheet.{sheet}

-- ---- the first number that passes a test
pub data Found : Type 0 where
  nowhere : Found
  found : ℕ → Found

-- of d numbers, from k on
unfoldable pub first_of : (ℕ → Bool) → ℕ → ℕ → Found
first_of f k zero = nowhere
first_of f k (suc d) = let r = first_of f (suc k) d in cond (f k) (found k) r

-- ---- E2's answer: "the least allowance from 0 to 65,535 whose sheet is no wider than the frame, or none"
unfoldable pub fits : Table → (frame allowance : ℕ) → Bool
fits t frame al = le_z (width t (sheet t al)) (pos frame)

unfoldable pub least_allowance : Table → (frame : ℕ) → Found
least_allowance t frame = first_of (fits t frame) 0 (most_allowance + 1)

-- a is it: at most 65,535, its sheet no wider than the frame, and that of every smaller one wider
pub record Least (t : Table) (frame a : ℕ) : Type 0 where
  pub small : a ≤ most_allowance
  pub inside : width t (sheet t a) ≤ℤ pos frame
  pub wider_before : (b : ℕ) → b < a → pos frame <ℤ width t (sheet t b)
