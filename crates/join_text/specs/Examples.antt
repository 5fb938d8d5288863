-- Texts of answers, computed. Assumes nothing.
use Rattle.std.specs.Prelude.{◌≡◌, refl, [], ◌∷◌, ℕ, Ok, Err}
use Rattle.listing.specs.Printed.{digits, decimal, line, refused_line}
use Rattle.plan.specs.declared.Refusal.{Refusal}
use Rattle.join_file_spec.specs.declared.JoinError.TheVariants.{FirstRefused, SecondRefused, Refused}
use Rattle.join_text.specs.JoinText.{join_text}

abbrev no : ℕ → ℕ → Refusal
no k c = record { number = k; cell = c }

-- nothing; `first refused 7 3`; `second refused 2 0`; `refused 16 0`
pub texts :
    (join_text (Ok 62) ≡ [])
    × (join_text (Err (FirstRefused (no 7 3))) ≡ 102 ∷ 105 ∷ 114 ∷ 115 ∷ 116 ∷ 32 ∷ 114 ∷ 101 ∷ 102 ∷ 117 ∷ 115 ∷ 101 ∷ 100 ∷ 32 ∷ 55 ∷ 32 ∷ 51 ∷ 10 ∷ [])
    × (join_text (Err (SecondRefused (no 2 0))) ≡ 115 ∷ 101 ∷ 99 ∷ 111 ∷ 110 ∷ 100 ∷ 32 ∷ 114 ∷ 101 ∷ 102 ∷ 117 ∷ 115 ∷ 101 ∷ 100 ∷ 32 ∷ 50 ∷ 32 ∷ 48 ∷ 10 ∷ [])
    × (join_text (Err (Refused (no 16 0))) ≡ 114 ∷ 101 ∷ 102 ∷ 117 ∷ 115 ∷ 101 ∷ 100 ∷ 32 ∷ 49 ∷ 54 ∷ 32 ∷ 48 ∷ 10 ∷ [])
unfolding join_text refused_line line decimal digits
texts = (refl, refl, refl, refl)
