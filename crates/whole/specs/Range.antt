-- A whole number from −far to far. Assumes nothing.
use Rattle.std.specs.Prelude.{Bool, ◌&&◌, ℕ, ℤ, pos, neg_ℤ, ◌≤ℤ◌}
use Rattle.std.specs.Int.Signed.{le_z}

unfoldable pub in_range : ℕ → ℤ → Bool
in_range far z = le_z (neg_ℤ (pos far)) z && le_z z (pos far)

pub record InRange (far : ℕ) (z : ℤ) : Type 0 where
  pub low : neg_ℤ (pos far) ≤ℤ z
  pub high : z ≤ℤ pos far
