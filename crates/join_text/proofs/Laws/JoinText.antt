-- The text of an answer, case by case: for the code. Nothing that a reader must believe stands here. Assumes nothing.
use Rattle.std.specs.Prelude.{◌≡◌, Result, Ok, Err, List, [], ◌∷◌, ◌++◌, ℕ}
use Rattle.listing.specs.Printed.{refused_line}
use Rattle.listing.specs.Put.{Put}
use Rattle.listing.proofs.Laws.Put.{put-none}
use Rattle.plan.specs.declared.Refusal.{Refusal}
use Rattle.join_file_spec.specs.declared.JoinError.{JoinError}
use Rattle.join_file_spec.specs.declared.JoinError.TheVariants.{FirstRefused, SecondRefused, Refused}
use Rattle.join_text.specs.JoinText.{join_text}

module _ {x : JoinError} {e : Refusal} {a b : List ℕ} {n : ℕ} where
  pub text-first : x ≡ FirstRefused e → Put a 0 ((102 ∷ 105 ∷ 114 ∷ 115 ∷ 116 ∷ 32 ∷ []) ++ refused_line e.number e.cell) b n → Put a 0 (join_text (Err x)) b n
  unfolding join_text
  text-first q u = rw q u

  pub text-second : x ≡ SecondRefused e → Put a 0 ((115 ∷ 101 ∷ 99 ∷ 111 ∷ 110 ∷ 100 ∷ 32 ∷ []) ++ refused_line e.number e.cell) b n → Put a 0 (join_text (Err x)) b n
  unfolding join_text
  text-second q u = rw q u

  pub text-refused : x ≡ Refused e → Put a 0 ([] ++ refused_line e.number e.cell) b n → Put a 0 (join_text (Err x)) b n
  unfolding join_text
  text-refused q u = rw q u

pub text-written : {r : Result ℕ JoinError} {n : ℕ} (a : List ℕ) → r ≡ Ok n → Put a 0 (join_text r) a 0
unfolding join_text
text-written a e = rw e (put-none a 0)
