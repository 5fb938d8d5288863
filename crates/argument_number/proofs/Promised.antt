-- WHAT IS PROMISED of a number that a text tells. Statements only; the proofs are in laws/. Assumes nothing.
use Rattle.std.specs.Prelude.{◌≡◌, refl, [], ◌∷◌, ℕ, ◌<◌, Some, None}
use Rattle.listing.specs.Printed.{decimal}
use Rattle.argument_number.specs.Number.{no_number, with_digit, with_digits, number_in}
use Rattle.argument_number.proofs.Laws.Number.{decimal-number}

-- a number as it is printed tells itself
pub told : (n : ℕ) → n < no_number → number_in (decimal n) ≡ Some n
told = decimal-number

-- ``, `-1`, `3 `, `1.5`, `/`, `:` and `4294967296` tell none; `007` and `4294967295` tell one
pub texts :
    (number_in [] ≡ None)
    × (number_in (45 ∷ 49 ∷ []) ≡ None)
    × (number_in (51 ∷ 32 ∷ []) ≡ None)
    × (number_in (49 ∷ 46 ∷ 53 ∷ []) ≡ None)
    × (number_in (47 ∷ []) ≡ None)
    × (number_in (58 ∷ []) ≡ None)
    × (number_in (52 ∷ 50 ∷ 57 ∷ 52 ∷ 57 ∷ 54 ∷ 55 ∷ 50 ∷ 57 ∷ 54 ∷ []) ≡ None)
    × (number_in (48 ∷ 48 ∷ 55 ∷ []) ≡ Some 7)
    × (number_in (52 ∷ 50 ∷ 57 ∷ 52 ∷ 57 ∷ 54 ∷ 55 ∷ 50 ∷ 57 ∷ 53 ∷ []) ≡ Some 4294967295)
unfolding number_in with_digits with_digit
texts = (refl, refl, refl, refl, refl, refl, refl, refl, refl)
