-- The greatest right edge less the least x. Assumes nothing.
use Rattle.std.specs.Prelude.{◌≡◌, ℕ, ◌+◌, ◌≤◌, ◌<◌}
use Rattle.plan.specs.Limits.{most_cells}
use Rattle.looking_sights.specs.Sights.{Sights}

-- n right edges, each beyond its x
pub record Bounds (s : Sights) (n : ℕ) : Type 0 where
  pub some : 1 ≤ n
  pub few : n ≤ most_cells
  pub each : (c : ℕ) → c < n → (s c).x ≤ (s c).right

-- w is the distance from one x to one right edge, and no distance is greater
pub record Spread (s : Sights) (n w : ℕ) : Type 0 where
  pub all : (a b : ℕ) → a < n → b < n → (s a).right ≤ (s b).x + w
  pub a : ℕ
  pub b : ℕ
  pub a_is : a < n
  pub b_is : b < n
  pub so : (s b).x + w ≡ (s a).right
