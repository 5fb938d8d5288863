-- Laws of the definitions in specs/Range.antt. Assumes nothing.
use Rattle.std.specs.Prelude.{ℕ, ℤ, pos, neg_ℤ}
use Rattle.whole.specs.Says.{Says}
use Rattle.whole.proofs.Laws.Says.{that_is, both, says_le_z}
use Rattle.whole.specs.Range.{in_range, InRange}

pub says_within : (far : ℕ) (z : ℤ) → Says (in_range far z) (InRange far z)
unfolding in_range
says_within far z = that_is (both (says_le_z (neg_ℤ (pos far)) z) (says_le_z z (pos far))) (λ h. record { low = h.0; high = h.1 }) (λ h. (h.low, h.high))
