-- Laws of the definitions in specs/Pages.antt. Assumes nothing.
use Rattle.std.specs.Prelude.{◌≡◌, refl, false, Float}
use Rattle.std.specs.Float.{fin, inf, nan, binary64}
use Rattle.std.specs.Float.Ieee.{of_bits, le}
use Rattle.plan.specs.Pages.{from_to, least_pitch, most_pitch, least_margin, most_margin}

-- the limits as their bits: 0.25, 16, 0 and 100
pub limits : (least_pitch ≡ of_bits binary64 0x3fd0_0000_0000_0000) × (most_pitch ≡ of_bits binary64 0x4030_0000_0000_0000)
    × (least_margin ≡ of_bits binary64 0) × (most_margin ≡ of_bits binary64 0x4059_0000_0000_0000)
unfolding of_bits
limits = (refl, refl, refl, refl)

-- a NaN is from no number to no other
le_nan : (x : Float) → le x nan ≡ false
unfolding le
le_nan nan = refl
le_nan (inf s) = refl
le_nan (fin s m e) = refl

pub no_nan : (a b : Float) → from_to a b nan ≡ false
unfolding from_to
no_nan a b = rw (le_nan a)
