-- Laws of the definitions in specs/Fixed.antt. Assumes nothing.
use Rattle.std.specs.Prelude.{◌≡◌, ℕ, ◌+◌, ◌/◌, ◌%◌, ◌^◌, ◌<◌, ◌≤◌, true, false, List, [], ◌∷◌, length, pos, Float}
use Rattle.std.proofs.Math.Path.{refl}
use Rattle.std.proofs.Common.{arith, length-append}
use Rattle.std.specs.Float.{fin, binary64}
use Rattle.std.specs.Float.Ieee.{of_bits, add, mul, lt, to_unsigned, round, sum, units, odd, size, span, climb, of_fields}
use Rattle.std.specs.Int.Count.{count_trailing_zeros}
use Rattle.listing.specs.Printed.{digits, decimal}
use Rattle.listing.specs.Put.{Put}
use Rattle.listing.proofs.Laws.Printed.{twenty}
use Rattle.listing.proofs.Laws.Put.{then}
use Rattle.decimals.specs.Fixed.{point, fixed, scaled, thousandths, millimetres}

pub fixed_short : {n : ℕ} → n < 2 ^ 64 → length (fixed n) ≤ 24
unfolding fixed
fixed_short {n} h = rw length-append (omega (arith, twenty {n = n / 1000} (omega arith)))

-- the five parts, written one after the other
pub fixed-put : {a b c d e f : List ℕ} {i j k l m o x y z : ℕ} (n : ℕ) → Put a i (decimal (n / 1000)) b j → Put b j (point ∷ []) c k
    → x ≡ 48 + n / 100 % 10 → Put c k (x ∷ []) d l → y ≡ 48 + n / 10 % 10 → Put d l (y ∷ []) e m → z ≡ 48 + n % 10 → Put e m (z ∷ []) f o → Put a i (fixed n) f o
unfolding fixed
fixed-put n p q ex r ey s ez t = rw (← ex, ← ey, ← ez) (then p (then q (then r (then s t))))

-- ---- the two tests of the code
module _ (x y : Float) (e : y ≡ scaled x) where
  pub held : (n : ℕ) → lt (fin true 1 (pos 0)) y ≡ true → lt y (fin false 1 (pos 64)) ≡ true → n ≡ to_unsigned 64 y → n ≡ thousandths x
  unfolding thousandths
  held n a b q = rw (← e, a, b) q

  pub not_low : lt (fin true 1 (pos 0)) y ≡ false → 0 ≡ thousandths x
  unfolding thousandths
  not_low a = rw (← e, a) refl

  pub not_high : lt (fin true 1 (pos 0)) y ≡ true → lt y (fin false 1 (pos 64)) ≡ false → 0 ≡ thousandths x
  unfolding thousandths
  not_high a b = rw (← e, a, b) refl

-- ---- worked: 12.3456 is `12.346`, 0.25 is `0.250`, −0 is `0.000`; and the double next to 0.0045, which lies below it, is `0.005`
pub record Rows : Type 0 where
  pub rounded : millimetres (of_bits binary64 0x4028_b0f2_7bb2_fec5) ≡ 49 ∷ 50 ∷ 46 ∷ 51 ∷ 52 ∷ 54 ∷ []
  pub quarter : millimetres (of_bits binary64 0x3fd0_0000_0000_0000) ≡ 48 ∷ 46 ∷ 50 ∷ 53 ∷ 48 ∷ []
  pub nought : millimetres (of_bits binary64 0x8000_0000_0000_0000) ≡ 48 ∷ 46 ∷ 48 ∷ 48 ∷ 48 ∷ []
  pub rounded_twice : millimetres (of_bits binary64 0x3f72_6e97_8d4f_df3b) ≡ 48 ∷ 46 ∷ 48 ∷ 48 ∷ 53 ∷ []

pub rows : Rows
unfolding millimetres thousandths scaled fixed decimal digits of_bits of_fields add mul sum round units odd size span climb count_trailing_zeros lt to_unsigned
rows = record { rounded = refl; quarter = refl; nought = refl; rounded_twice = refl }
