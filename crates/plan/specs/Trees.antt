-- Columns of a table as the code has them: what is asked of the parents, and what the levels and rows are. Assumes nothing.
use Rattle.std.specs.Prelude.{◌≡◌, List, ℕ, ◌≤◌, ◌<◌, length, get_or}
use Rattle.plan.specs.Limits.{most_depth, most_cells}

-- n cells, 1 to 256, whose parents are lower
pub record Lower (ps : List ℕ) (n : ℕ) : Type 0 where
  pub some : 1 ≤ n
  pub few : n ≤ most_cells
  pub lower : (c : ℕ) → 1 ≤ c → c < n → get_or ps c 0 < c

-- n depths that question 8 passes
pub record Flat (ds : List ℕ) (n : ℕ) : Type 0 where
  pub flat : (c : ℕ) → c < n → get_or ds c 0 ≤ most_depth

-- n rows that leave room for a depth
pub record Short (rs : List ℕ) (n : ℕ) : Type 0 where
  pub short : (c : ℕ) → c < n → get_or rs c 0 ≤ 4096

-- a column of 256 numbers whose first n are those of f
pub record Column (xs : List ℕ) (n : ℕ) (f : ℕ → ℕ) : Type 0 where
  pub long : length xs ≡ most_cells
  pub each : (c : ℕ) → c < n → get_or xs c 0 ≡ f c
