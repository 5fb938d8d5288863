-- THE NUMBER THAT A TEXT TELLS: one or more decimal digits, and nothing else; at most 4,294,967,295. Every definition computes. Assumes nothing.
use Rattle.std.specs.Prelude.{cond, [], ◌∷◌, ℕ, ◌+◌, ◌-◌, ◌*◌, leb, Option, Some, None}
use Rattle.plan.specs.Limits.{between}
use Rattle.listing.specs.Printed.{Bytes}

-- one more than the greatest that is told
abbrev pub no_number : ℕ
no_number = 4294967296

-- a number with one digit more; none where the byte is no digit, or the number too great. None stays none
unfoldable pub with_digit : (number : Option ℕ) (byte : ℕ) → Option ℕ
with_digit None b = None
with_digit (Some n) b = cond (between 48 57 b) (cond (leb no_number (10 * n + (b - 48))) None (Some (10 * n + (b - 48)))) None

-- with all these
unfoldable pub with_digits : (number : Option ℕ) → Bytes → Option ℕ
with_digits n [] = n
with_digits n (b ∷ bs) = with_digits (with_digit n b) bs

-- THE number; none of no byte
unfoldable pub number_in : Bytes → Option ℕ
number_in [] = None
number_in (b ∷ bs) = with_digits (Some 0) (b ∷ bs)
