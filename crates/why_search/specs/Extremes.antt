-- The least x and the greatest right edge, of n cells' numbers. Assumes nothing.
use Rattle.std.specs.Prelude.{◌≡◌, ℕ, ◌≤◌, ◌<◌}
use Rattle.looking_sights.specs.Sights.{Sights}

-- v is the f of one of n cells
pub record From (f : ℕ → ℕ) (n v : ℕ) : Type 0 where
  pub cell : ℕ
  pub is : cell < n
  pub so : v ≡ f cell

-- low and high, of the first c of n cells
pub record Extremes (s : Sights) (n c low high : ℕ) : Type 0 where
  pub lows : (i : ℕ) → i < c → low ≤ (s i).x
  pub highs : (i : ℕ) → i < c → (s i).right ≤ high
  pub low_from : From (λ i. (s i).x) n low
  pub high_from : From (λ i. (s i).right) n high
