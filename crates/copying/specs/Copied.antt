-- Document 02, E4: WHAT THE WRITER ANSWERS, and what it leaves in the output lent to it, on every input. Assumes nothing.
use Rattle.std.specs.Prelude.{◌≡◌, List, [], ◌∷◌, ◌++◌, Result, Ok, Err, ℕ, ◌≤◌, length, drop}
use Rattle.plan.specs.Limits.{most_cells, most_file}
use Rattle.plan.specs.Questions.{to_fill, nothing, read, refusal, answered}
use Rattle.plan.specs.declared.Record.{Record}
use Rattle.plan.specs.declared.Refusal.{Refusal}
use Rattle.planfile_spec.specs.Format.{file_given}
use Rattle.content.specs.Clean.{copy, file_copy, copy_refusal}

-- the values of the two answers: the length of the file; number and cell of the refusal
unfoldable pub copied_of : List Record → (letters : List ℕ) → (allowance : ℕ) → Refusal → Result ℕ Refusal
copied_of rs letters al r = answered r (length (copy rs letters al))

-- the lent output after it. Of a copy: the file, the rest as it was. Of a refusal: as it was
unfoldable pub output_after : Result ℕ Refusal → List Record → (letters : List ℕ) → (allowance : ℕ) → List ℕ → List ℕ
output_after (Ok n) rs letters al out = copy rs letters al ++ drop n out
output_after (Err r) rs letters al out = out

-- a call: the answer, and the output before and after it
pub record Copies (rs : List Record) (letters : List ℕ) (al : ℕ) (out out' : List ℕ) (d : Result ℕ Refusal) : Type 0 where
  pub answers : d ≡ copied_of rs letters al (copy_refusal rs letters al (length out))
  pub output : out' ≡ output_after d rs letters al out

-- ---- of a plan file, as the program `clean` has it: the length of its clean copy, or Read's refusal, into an output that is long enough
unfoldable pub cleaned_of : (file : List ℕ) → Result ℕ Refusal
cleaned_of f =
    answered (refusal read (file_given f (to_fill most_cells ∷ []) nothing)) (length (file_copy f))

unfoldable pub cleaned_after : Result ℕ Refusal → (file out : List ℕ) → List ℕ
cleaned_after (Ok n) f out = file_copy f ++ drop n out
cleaned_after (Err r) f out = out

-- bytes of the copy that is given
unfoldable pub size : Result ℕ Refusal → ℕ
size (Ok n) = n
size (Err r) = 0

pub record Cleans (f out out' : List ℕ) (d : Result ℕ Refusal) : Type 0 where
  pub answers : d ≡ cleaned_of f
  pub output : out' ≡ cleaned_after d f out
  pub suffices : size d ≤ most_file
