-- A float as a decimal number with three digits after the point: what the program `plot` prints of a coordinate (document 02, E1; docs/DECISIONS.md). Assumes nothing.
use Rattle.std.specs.Prelude.{ℕ, ◌/◌, ◌%◌, true, false, cond, ◌&&◌, [], ◌∷◌, ◌++◌, pos, negsuc, Float}
use Rattle.std.specs.Float.{fin, binary64}
use Rattle.std.specs.Float.Ieee.{add, mul, lt, to_unsigned}
use Rattle.listing.specs.Printed.{Bytes, digit, decimal}

abbrev pub point : ℕ
point = 46

-- so many thousandths
unfoldable pub fixed : ℕ → Bytes
fixed n = decimal (n / 1000) ++ (point ∷ digit (n / 100 % 10) ∷ digit (n / 10 % 10) ∷ digit (n % 10) ∷ [])

-- x · 1000 + 1/2, two operations of IEEE 754, each rounded; its whole part is the number of thousandths that is printed. Mostly that is the nearest one, but where a rounding comes up to the half from
-- below it is the next above: the double next to 0.0045 lies below it, times 1000 it rounds to 4.5, and `0.005` is printed (proofs/Laws/Fixed: `rounded_twice`)
unfoldable pub scaled : Float → Float
scaled x = add binary64 (mul binary64 x (fin false 125 (pos 3))) (fin false 1 (negsuc 0))

-- 0 where 64 bits do not hold them, as of a NaN
unfoldable pub thousandths : Float → ℕ
thousandths x = cond (lt (fin true 1 (pos 0)) (scaled x) && lt (scaled x) (fin false 1 (pos 64))) (to_unsigned 64 (scaled x)) 0

unfoldable pub millimetres : Float → Bytes
millimetres x = fixed (thousandths x)
