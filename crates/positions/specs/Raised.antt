-- Columns x as natural numbers. Nothing that a reader must believe stands here. Assumes nothing.
use Rattle.std.specs.Prelude.{◌≡◌, List, ℕ, ◌*◌, ◌≤◌, ◌<◌, get_or, ℤ, pos, ◌+ℤ◌}
use Rattle.plan.specs.Limits.{farthest, most_cells}
use Rattle.plan.specs.Plan.{Table}
use Rattle.plan.specs.Fit.{Fit}
use Rattle.marks.specs.Marks.{Marked}

-- n natural numbers, each an x from −262,143 to 262,143 moved up by 262,143
pub record Raised (xs : List ℕ) (n : ℕ) (x : ℕ → ℤ) : Type 0 where
  pub each : (c : ℕ) → c < n → pos (get_or xs c 0) ≡ x c +ℤ pos farthest
  pub high : (c : ℕ) → c < n → get_or xs c 0 ≤ 2 * farthest

-- at most 256 numbers that leave room for a width
pub record High (xs : List ℕ) (n : ℕ) : Type 0 where
  pub few : n ≤ most_cells
  pub high : (c : ℕ) → c < n → get_or xs c 0 ≤ 2 * farthest

-- n rows, each a y
pub record Topped (ts : List ℕ) (n : ℕ) (y : ℕ → ℤ) : Type 0 where
  pub each : (c : ℕ) → c < n → pos (get_or ts c 0) ≡ y c

-- what is drawn: a table that no question refuses, and its marks under some allowance
pub record Raising (t : Table) (ms : List ℕ) : Type 0 where
  pub allowance : ℕ
  pub fit : Fit t
  pub marks : Marked t allowance ms
