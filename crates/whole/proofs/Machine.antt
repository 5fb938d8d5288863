-- A signed 32-bit number as the machine reads it back from its bits, moved up, and a difference. Assumes nothing.
use mathlib.Core.Path.{◌≡◌, sym, ◌∙◌, ap}
use mathlib.Core.Bool.{true, false}
use Prim.Native.Nat.{ℕ, ◌≤◌, ◌<◌, ◌^◌}
use native.Mathlib.Omega.{arith}
use lib.IntN.{ℤ, pos, negsuc, neg_ℤ, ◌+ℤ◌, ◌-ℤ◌}
use lib.Signed.{◌<ℤ◌, lt_z}
use mir.Syntax.{w32}
use mir.Val.{to_z, of_z, SFits}
use mir.ValLaws.{to_z-of_z, to_z_pos}
use Rattle.whole.specs.Whole.{plus, minus}
use Rattle.whole.proofs.Laws.Whole.{whole, narrow, not_lt, sum, diff, neg-plus, neg-minus, le_read}
use Rattle.whole.specs.Bias.{bias}
use Rattle.whole.proofs.Laws.Says.{is_true, is_false, holds, fails, says_lt_z}
use Rattle.whole.specs.Range.{in_range, InRange}
use Rattle.whole.proofs.Laws.Range.{says_within}

pub fits32 : (z : ℤ) → plus z < 2147483648 → minus z ≤ 2147483648 → SFits w32 z
fits32 (pos n) h k = record { sfits = omega arith }
fits32 (negsuc n) h k = record { sfits = omega arith }

-- a number below 2^31 is read back as it is
pub back_nat : (n : ℕ) → n < 2 ^ 31 → to_z w32 n ≡ pos n
back_nat n h = to_z_pos w32 n (omega arith)

module _ (a b : ℕ) (ha : a < 2 ^ 31) (hb : b < 2 ^ 31) where
  pub difference_fits : SFits w32 (to_z w32 a -ℤ to_z w32 b)
  difference_fits =
      rw (back_nat a ha, back_nat b hb) (fits32 (pos a -ℤ pos b)
      (omega (whole, diff (pos a) (pos b), narrow (pos a -ℤ pos b))) (omega (whole, diff (pos a) (pos b), narrow (pos a -ℤ pos b))))

  pub difference_is : to_z w32 (of_z w32 (to_z w32 a -ℤ to_z w32 b)) ≡ pos a -ℤ pos b
  difference_is = to_z-of_z w32 (to_z w32 a -ℤ to_z w32 b) difference_fits ∙ rw (back_nat a ha, back_nat b hb)

module _ (by : ℕ) (small : by < 2 ^ 30) (x : ℤ) (h : InRange by x) where
  within-fits : SFits w32 x
  within-fits = fits32 x (omega (whole, narrow x, le_read h.low, le_read h.high, neg-plus (pos by), neg-minus (pos by))) (omega (whole, narrow x, le_read h.low, neg-plus (pos by), neg-minus (pos by)))

  pub back : to_z w32 (of_z w32 x) ≡ x
  back = to_z-of_z w32 x within-fits

  up : x +ℤ pos by ≡ pos (bias by x)
  up = omega (whole, sum x (pos by), le_read h.low, neg-plus (pos by), neg-minus (pos by))

  pub raise_low : bias by x < 2 ^ 31
  raise_low = omega (whole, le_read h.high)

  pub raise_fits : SFits w32 (to_z w32 (of_z w32 x) +ℤ to_z w32 by)
  raise_fits = rw (back, back_nat by (omega arith), up) record { sfits = omega (whole, raise_low) }

  pub raise_is : to_z w32 (of_z w32 (to_z w32 (of_z w32 x) +ℤ to_z w32 by)) ≡ pos (bias by x)
  raise_is = to_z-of_z w32 (to_z w32 (of_z w32 x) +ℤ to_z w32 by) raise_fits ∙ ap (λ (z : ℤ). z +ℤ to_z w32 by) back ∙ ap (λ (z : ℤ). x +ℤ z) (back_nat by (omega arith)) ∙ up

-- ---- the tests of a range, as the machine makes them
module _ (far : ℕ) (small : far < 2 ^ 30) (x : ℤ) (f : SFits w32 x) where
  pub low_fits : SFits w32 (to_z w32 0 -ℤ to_z w32 far)
  low_fits = difference_fits 0 far (omega arith) (omega arith)

  low_is : to_z w32 (of_z w32 (to_z w32 0 -ℤ to_z w32 far)) ≡ neg_ℤ (pos far)
  low_is = difference_is 0 far (omega arith) (omega arith) ∙ omega (whole, diff (pos 0) (pos far), neg-plus (pos far), neg-minus (pos far))

  pub low_fails : lt_z (to_z w32 (of_z w32 x)) (to_z w32 (of_z w32 (to_z w32 0 -ℤ to_z w32 far))) ≡ true → false ≡ in_range far x
  low_fails e =
      let h : x <ℤ neg_ℤ (pos far) = holds (says_lt_z x (neg_ℤ (pos far))) (rw (to_z-of_z w32 x f, low_is) at e) in
      sym (is_false (says_within far x) (λ i. omega (whole, i.low)))

  pub high_fails : lt_z (to_z w32 far) (to_z w32 (of_z w32 x)) ≡ true → false ≡ in_range far x
  high_fails e =
      let h : pos far <ℤ x = holds (says_lt_z (pos far) x) (rw (to_z-of_z w32 x f, back_nat far (omega arith)) at e) in
      sym (is_false (says_within far x) (λ i. omega (whole, i.high)))

  pub passes : lt_z (to_z w32 (of_z w32 x)) (to_z w32 (of_z w32 (to_z w32 0 -ℤ to_z w32 far))) ≡ false → lt_z (to_z w32 far) (to_z w32 (of_z w32 x)) ≡ false → true ≡ in_range far x
  passes e g =
      let h : ¬ (x <ℤ neg_ℤ (pos far)) = fails (says_lt_z x (neg_ℤ (pos far))) (rw (to_z-of_z w32 x f, low_is) at e) in
      let k : ¬ (pos far <ℤ x) = fails (says_lt_z (pos far) x) (rw (to_z-of_z w32 x f, back_nat far (omega arith)) at g) in
      sym (is_true (says_within far x) (record { low = not_lt h; high = not_lt k }))
