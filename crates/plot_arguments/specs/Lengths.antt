-- WHAT AN ARGUMENT OF `plot` SAYS: a length in thousandths of a millimetre, read byte by byte, or that it is no number (docs/DECISIONS.md). A number has digits and at most one
-- point before, among or behind them, one digit at least, and three behind the point at most. Question 17 judges every number; what is none is trouble. Assumes nothing.
use Rattle.std.specs.Prelude.{true, false, ◌&&◌, cond, List, [], ◌∷◌, ℕ, ◌+◌, ◌*◌, ◌-◌, min, eqb, leb, ltb, Option, Some, None}
use Rattle.plot_arguments.specs.declared.Digits.{Digits}

abbrev pub point : ℕ
point = 46

-- a number of so many units of its last digit or more counts as so many: 1,000 mm at least, which question 17 refuses
abbrev pub most : ℕ
most = 1000000

-- nothing read; what can no longer be a number
abbrev pub start : Digits
start = record { value = 0; place = 0; seen = false; fault = false }

abbrev pub broken : Digits
broken = record { value = 0; place = 0; seen = false; fault = true }

-- a digit more: before the point it stands before it, behind it one place further
unfoldable pub next_place : ℕ → ℕ
next_place p = cond (eqb p 0) 0 (p + 1)

unfoldable pub with_point : Digits → Digits
with_point d = cond (eqb d.place 0) (record { value = d.value; place = 1; seen = d.seen; fault = false }) broken

unfoldable pub with_digit : Digits → ℕ → Digits
with_digit d b = cond (ltb 3 d.place) broken (record { value = min (10 * d.value + (b - 48)) most; place = next_place d.place; seen = true; fault = false })

unfoldable pub step : Digits → ℕ → Digits
step d b = cond d.fault broken (cond (eqb b point) (with_point d) (cond (leb 48 b && leb b 57) (with_digit d b) broken))

unfoldable pub run : Digits → List ℕ → Digits
run d [] = d
run d (b ∷ bs) = run (step d b) bs

-- a number whose last digit stands at a place, in thousandths
unfoldable pub thousandths : (value place : ℕ) → ℕ
thousandths v p = cond (leb p 1) (v * 1000) (cond (eqb p 2) (v * 100) (cond (eqb p 3) (v * 10) v))

unfoldable pub finish : Digits → Option ℕ
finish d = cond d.fault None (cond d.seen (Some (thousandths d.value d.place)) None)

-- THE LENGTH
unfoldable pub length_of : List ℕ → Option ℕ
length_of text = finish (run start text)
