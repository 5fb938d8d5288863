-- The digits read back are the number, and a number of 32 bits has at most ten. Assumes nothing.
use Rattle.std.specs.Prelude.{◌≡◌, refl, [], ◌∷◌, ◌++◌, ℕ, zero, suc, ◌+◌, ◌-◌, ◌*◌, ◌/◌, ◌%◌, ◌^◌, ◌≤◌, ◌<◌, length}
use Rattle.std.proofs.Common.{sym, ◌∙◌, pow-suc, arith, length-append, lt-ltb, le-ltb}
use Rattle.std.proofs.Math.Path.{ap}
use Rattle.std.proofs.Math.Decide.{dec_lt}
use Rattle.listing.specs.Printed.{Bytes, digit, digits, decimal}

-- ---- one digit, and one digit more
digits-one : (k n : ℕ) → n < 10 → digits k n ≡ digit n ∷ []
unfolding digits
digits-one zero n h = refl
digits-one (suc k) n h = rw (lt-ltb n 10 h, digits)

digits_more : (k n : ℕ) → 10 ≤ n → digits (suc k) n ≡ digits k (n / 10) ++ (digit (n % 10) ∷ [])
unfolding digits
digits_more k n h = rw (le-ltb n 10 h, digits)

digits_same : (k m n : ℕ) → n ≤ k → n ≤ m → digits k n ≡ digits m n
digits_same zero m n h g = digits-one 0 n (omega arith) ∙ sym (digits-one m n (omega arith))
digits_same (suc k) zero n h g = digits-one (suc k) n (omega arith) ∙ sym (digits-one 0 n (omega arith))
digits_same (suc k) (suc m) n h g =
    let same = digits_same k m (n / 10) in
    elim (dec_lt n 10) [
      | yes l ↦ digits-one (suc k) n l ∙ sym (digits-one (suc m) n l)
      | no l ↦ let l : 10 ≤ n = omega arith in digits_more k n l ∙ ap (λ s. s ++ (digit (n % 10) ∷ [])) (same (omega arith) (omega arith)) ∙ sym (digits_more m n l)
    ]

module _ (n : ℕ) where
  pub decimal-one : n < 10 → decimal n ≡ digit n ∷ []
  unfolding decimal
  decimal-one h = digits-one n n h

  pub decimal-more : 10 ≤ n → decimal n ≡ decimal (n / 10) ++ (digit (n % 10) ∷ [])
  unfolding decimal
  decimal-more h = digits_same n (suc n) n (omega arith) (omega arith) ∙ digits_more n n h ∙ ap (λ s. s ++ (digit (n % 10) ∷ [])) (digits_same n (n / 10) (n / 10) (omega arith) (omega arith))

-- ---- how many
pub at_most : (k n : ℕ) → n < 10 ^ suc k → length (decimal n) ≤ suc k
at_most zero n h = rw (decimal-one n h) (omega arith)
at_most (suc k) n h =
    let fewer = at_most k (n / 10) in
    let p : 10 ^ suc (suc k) ≡ 10 ^ suc k * 10 = pow-suc 10 (suc k) in
    elim (dec_lt n 10) [
      | yes l ↦ rw (decimal-one n l) (omega arith)
      | no l ↦ rw (decimal-more n (omega arith), length-append) (omega (arith, fewer (omega (arith, p))))
    ]

pub nine : {n : ℕ} → 10 ≤ n → n < 2 ^ 32 → length (decimal (n / 10)) ≤ 9
nine {n} l h = at_most 8 (n / 10) (omega arith)

pub ten : {n : ℕ} → n < 2 ^ 32 → length (decimal n) ≤ 10
ten {n} h = at_most 9 n (omega arith)

-- the same of 64 bits
pub nineteen : {n : ℕ} → 10 ≤ n → n < 2 ^ 64 → length (decimal (n / 10)) ≤ 19
nineteen {n} l h = at_most 18 (n / 10) (omega arith)

pub twenty : {n : ℕ} → n < 2 ^ 64 → length (decimal n) ≤ 20
twenty {n} h = at_most 19 n (omega arith)

-- ---- read back
-- the number that digits say, after those that say a
value_after : ℕ → Bytes → ℕ
value_after a [] = a
value_after a (b ∷ bs) = value_after (10 * a + (b - 48)) bs

value_append : (a : ℕ) (s t : Bytes) → value_after a (s ++ t) ≡ value_after (value_after a s) t
unfolding value_after
value_append a [] t = refl
value_append a (b ∷ s) t = value_append (10 * a + (b - 48)) s t

pub value : Bytes → ℕ
value = value_after 0

digits_value : (k n : ℕ) → n ≤ k → value (decimal n) ≡ n
unfolding value value_after
digits_value zero n h = rw (decimal-one n (omega arith)) (omega arith)
digits_value (suc k) n h =
    let front = digits_value k (n / 10) in
    elim (dec_lt n 10) [
      | yes l ↦ rw (decimal-one n l) (omega arith)
      | no l ↦ rw (decimal-more n (omega arith), value_append, front (omega arith)) (omega arith)
    ]

pub value_decimal : (n : ℕ) → value (decimal n) ≡ n
value_decimal n = digits_value n n (omega arith)
