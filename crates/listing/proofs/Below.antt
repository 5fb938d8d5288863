-- A signed number of 32 bits: how far it lies below 0, as the machine works it out, and its digits. Assumes nothing.
use mathlib.Core.Path.{◌≡◌, refl, ◌∙◌}
use mathlib.Core.List.{List, [], ◌∷◌}
use Prim.Native.Nat.{ℕ, ◌+◌, ◌-◌, ◌<◌, ◌≤◌, ◌^◌}
use native.Mathlib.Omega.{arith}
use mathlib.Core.Bool.{true, false}
use lib.Dec.{T}
use lib.IntN.{ℤ, pos, negsuc, ◌+ℤ◌, ◌-ℤ◌, nat_abs}
use lib.Signed.{◌<ℤ◌, ◌≤ℤ◌, non_neg, lt_z}
use mir.Syntax.{w32}
use mir.Val.{to_z, of_z, Fits, SFits}
use mir.ValLaws.{to_z-of_z}
use Rattle.whole.specs.Whole.{minus, plus}
use Rattle.whole.proofs.Laws.Whole.{whole, narrow, not_lt, sum, diff}
use Rattle.whole.proofs.Laws.Says.{holds, fails, says_lt_z}
use Rattle.listing.specs.Printed.{signed, minus_sign, decimal}
use Rattle.listing.specs.Put.{Put}
use Rattle.listing.proofs.Laws.Put.{then}
use Rattle.whole.proofs.Machine.{fits32}

-- x as the machine reads it back, and x + 1, and −(x + 1)
abbrev back : ℤ → ℤ
back z = to_z w32 (of_z w32 z)

abbrev up : ℤ → ℤ
up x = back x +ℤ pos 1

abbrev rest : ℤ → ℤ
rest x = pos 0 -ℤ back (up x)

not_far : (x : ℤ) → SFits w32 x → minus x ≤ 2 ^ 31
not_far (pos n) f = omega arith
not_far (negsuc n) f = omega (arith, f.sfits)

not_high : (x : ℤ) → SFits w32 x → plus x < 2 ^ 31
not_high (pos n) f = omega (arith, f.sfits)
not_high (negsuc n) f = omega arith

module _ (x : ℤ) (f : SFits w32 x) (h : x <ℤ pos 0) where
  x-back : back x ≡ x
  x-back = to_z-of_z w32 x f

  pub up_fits : SFits w32 (up x)
  up_fits = rw x-back (fits32 (x +ℤ pos 1) (omega (whole, sum x (pos 1), narrow (x +ℤ pos 1))) (omega (whole, sum x (pos 1), not_far x f, narrow (x +ℤ pos 1))))

  rest-is : rest x ≡ pos (minus x - 1)
  rest-is =
      rw (to_z-of_z w32 (up x) up_fits, x-back) (omega (whole, narrow x, sum x (pos 1), diff (pos 0) (x +ℤ pos 1), narrow (x +ℤ pos 1), narrow (pos 0 -ℤ (x +ℤ pos 1))))

  pub rest-fits : SFits w32 (rest x)
  rest-fits = rw rest-is (record { sfits = omega (arith, not_far x f) })

  rest_back : back (rest x) ≡ pos (minus x - 1)
  rest_back = to_z-of_z w32 (rest x) rest-fits ∙ rest-is

  pub rest-natural : T (non_neg (back (rest x))) × Fits w32 (nat_abs (back (rest x)))
  rest-natural = rw rest_back (tt, record { fits = omega (arith, not_far x f) })

  pub below : nat_abs (back (rest x)) + 1 ≡ minus x
  below = rw rest_back (omega whole)

  pub below-fits : Fits w32 (nat_abs (back (rest x)) + 1)
  below-fits = rw below (record { fits = omega (arith, not_far x f) })

-- ---- the digits of a negative number, and of another
signed-minus : (x : ℤ) → x <ℤ pos 0 → minus_sign ∷ decimal (minus x) ≡ signed x
unfolding signed
signed-minus (pos n) h = absurd (omega whole)
signed-minus (negsuc n) h = refl

signed-plus : (x : ℤ) → ¬ (x <ℤ pos 0) → decimal (nat_abs x) ≡ signed x
unfolding signed
signed-plus (pos n) h = refl
signed-plus (negsuc n) h = absurd (h (omega whole))

-- the machine's test, on x as it reads it back
module _ (x : ℤ) (f : SFits w32 x) where
  module _ (e : lt_z (back x) (pos 0) ≡ true) where
    pub negative : back x <ℤ pos 0
    negative = holds (says_lt_z (back x) (pos 0)) e

    pub signed_negative : {a b c : List ℕ} {i j k n : ℕ} → n ≡ minus (back x) → Put a i (minus_sign ∷ []) b j → Put b j (decimal n) c k → Put a i (signed x) c k
    signed_negative m p q = rw (m, signed-minus (back x) negative, to_z-of_z w32 x f) at (then p q)

  module _ (e : lt_z (back x) (pos 0) ≡ false) where
    natural-number : ¬ (x <ℤ pos 0)
    natural-number = fails (says_lt_z x (pos 0)) (rw (to_z-of_z w32 x f) at e)

    is-plus : x ≡ pos (plus x)
    is-plus = let g : pos 0 ≤ℤ x = not_lt natural-number in omega (whole, narrow x)

    pub natural : T (non_neg (back x)) × Fits w32 (nat_abs (back x))
    natural = rw (to_z-of_z w32 x f, is-plus) (tt, record { fits = omega (arith, not_high x f) })

    pub signed-natural : {a b : List ℕ} {i k : ℕ} → Put a i (decimal (nat_abs (back x))) b k → Put a i (signed x) b k
    signed-natural p = rw (to_z-of_z w32 x f, signed-plus x natural-number) at p
