-- THE LINES OF A TEXT, THE WORDS OF A LINE, AND THE NUMBER THAT A WORD SAYS. Every definition computes. Assumes nothing.
use Rattle.std.specs.Prelude.{List, [], ◌∷◌, Bool, true, false, ◌||◌, cond, ℕ, ◌+◌, ◌-◌, ◌*◌, eqb, get_or, drop, ℤ, pos, ◌-ℤ◌}
use Rattle.std.proofs.Math.Option.{Option, none, some}
use Rattle.plan.specs.Limits.{between}
use Rattle.listing.specs.Printed.{Bytes, space, line_feed, minus_sign, digit}

abbrev pub tab : ℕ
tab = 9

abbrev pub carriage_return : ℕ
carriage_return = 13

-- a byte before the first of some texts; where there is none, a text of its own
unfoldable pub onto : ℕ → List Bytes → List Bytes
onto b [] = (b ∷ []) ∷ []
onto b (l ∷ ls) = (b ∷ l) ∷ ls

-- ---- lines: a line feed ends each; after the last it may be left out
unfoldable pub lines : Bytes → List Bytes
lines [] = []
lines (b ∷ bs) = let ls = lines bs in cond (eqb b line_feed) ([] ∷ ls) (onto b ls)

-- ---- words
-- what parts words: a blank, a tab, or the carriage return that some editors put before a line feed
unfoldable pub blank : ℕ → Bool
blank b = eqb b space || eqb b tab || eqb b carriage_return

-- a word ends here
unfoldable pub parted : Bytes → Bool
parted [] = true
parted (b ∷ bs) = blank b

-- the words of a line, which one blank or more part
unfoldable pub words : Bytes → List Bytes
words [] = []
words (b ∷ bs) = let ws = words bs in cond (blank b) ws (cond (parted bs) ((b ∷ []) ∷ ws) (onto b ws))

-- the first word, and the others; of no words: the empty one, and none
unfoldable pub first : List Bytes → Bytes
first [] = []
first (w ∷ ws) = w

unfoldable pub others : List Bytes → List Bytes
others [] = []
others (w ∷ ws) = ws

-- ---- numbers
unfoldable pub is_digit : ℕ → Bool
is_digit b = between (digit 0) (digit 9) b

-- a number in decimal, on from the digits that say a: nothing but digits
unfoldable pub natural_from : (a : ℕ) → Bytes → Option ℕ
natural_from a [] = some a
natural_from a (b ∷ bs) = elim (is_digit b) [ true ↦ natural_from (10 * a + (b - digit 0)) bs | false ↦ none ]

-- a natural number: a digit at least
unfoldable pub natural : Bytes → Option ℕ
natural [] = none
natural (b ∷ bs) = natural_from 0 (b ∷ bs)

-- a whole number: a natural one, before which a minus sign may stand
unfoldable pub with_sign : Option ℕ → (below : Bool) → Option ℤ
with_sign none below = none
with_sign (some n) true = some (pos 0 -ℤ pos n)
with_sign (some n) false = some (pos n)

unfoldable pub begins_below : Bytes → Bool
begins_below w = eqb (get_or w 0 0) minus_sign

unfoldable pub integer : Bytes → Option ℤ
integer w = cond (begins_below w) (with_sign (natural (drop 1 w)) true) (with_sign (natural w) false)
