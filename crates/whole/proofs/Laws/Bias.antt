-- Finitely many whole numbers, each moved up by B so that none is negative: the comparisons of the rules hold of them exactly where
-- they hold of the natural numbers got. Assumes nothing.
use Rattle.std.specs.Prelude.{◌≡◌, ◌↔◌, ℕ, zero, suc, ◌+◌, ◌≤◌, ◌<◌, max, ℤ, pos, ◌+ℤ◌, ◌-ℤ◌, ◌≤ℤ◌, ◌<ℤ◌}
use Rattle.std.proofs.Common.{arith}
use Rattle.std.proofs.Math.Decide.{ℕ_discrete}
use Rattle.whole.specs.Whole.{minus}
use Rattle.whole.proofs.Laws.Whole.{whole, sum, diff}
use Rattle.whole.specs.Bias.{bias}

-- enough for the numbers x 0 to x (n - 1)
unfoldable pub bound : (ℕ → ℤ) → ℕ → ℕ
bound x zero = 0
bound x (suc n) = max (minus (x n)) (bound x n)

pub bounded : (x : ℕ → ℤ) (n c : ℕ) → c < n → minus (x c) ≤ bound x n
unfolding bound
bounded x zero c h = absurd (omega arith)
bounded x (suc n) c h = go (ℕ_discrete c n) (bounded x n c)
  where
    go : Dec (c ≡ n) → (c < n → minus (x c) ≤ bound x n) → minus (x c) ≤ max (minus (x n)) (bound x n)
    go (yes e) g = rw e (omega arith)
    go (no ne) g = omega (arith, g (omega arith))

module _ (B : ℕ) (a b : ℤ) (ha : minus a ≤ B) (hb : minus b ≤ B) where
  pub bias_eq : (a ≡ b) ↔ (bias B a ≡ bias B b)
  bias_eq = omega whole

  pub bias_lt : a <ℤ b ↔ bias B a < bias B b
  bias_lt = omega whole

  -- S3, S4: x(a) + w < x(b)
  pub bias_lt_add : (w : ℕ) → ((a +ℤ pos w) <ℤ b) ↔ (bias B a + w < bias B b)
  bias_lt_add w = omega (whole, sum a (pos w))

  -- S5: x(a) + w − x(b) + 1 ≤ k
  pub bias_allow : (w k : ℕ) → ((a +ℤ pos w -ℤ b +ℤ pos 1) ≤ℤ pos k) ↔ (bias B a + w + 1 ≤ bias B b + k)
  bias_allow w k = omega (whole, sum a (pos w), diff (a +ℤ pos w) b, sum (a +ℤ pos w -ℤ b) (pos 1))
