-- Positions that question 15 passes. Assumes nothing.
use Rattle.std.specs.Prelude.{List, ℕ, ◌+◌, ◌*◌, ◌≤◌, ◌<◌, length, get_or, ℤ, pos}
use Rattle.whole.specs.Range.{InRange}
use Rattle.plan.specs.Limits.{farthest}

-- x and y of each of n cells, near enough
pub record Near (ps : List ℤ) (n : ℕ) : Type 0 where
  pub room : 2 * n ≤ length ps
  pub x : (c : ℕ) → c < n → InRange farthest (get_or ps (2 * c) (pos 0))
  pub y : (c : ℕ) → c < n → InRange farthest (get_or ps (2 * c + 1) (pos 0))
