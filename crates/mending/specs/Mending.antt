-- THE CALL (document 02, E11): what it answers, and what it leaves in the two outputs lent to it, on every input. Assumes nothing.
use Rattle.std.specs.Prelude.{◌≡◌, [], ◌∷◌, ◌++◌, Result, Ok, Err, map, ℕ, ◌≤◌, length, drop}
use Rattle.plan.specs.Limits.{most_file, lines_size}
use Rattle.plan.specs.Questions.{copy_output, lines_output, nothing, none, Given, mend, refusal, answered}
use Rattle.plan.specs.declared.Refusal.{Refusal}
use Rattle.planfile_spec.specs.Format.{file_given}
use Rattle.listing.specs.Printed.{Bytes, lines_joined}
use Rattle.mending_lines.specs.Lines.{alteration_line}
use Rattle.mending.specs.Mended.{would_get, mended, altered}
use Rattle.mending.specs.declared.Mended.{Mended}

-- the questions are put to the mended file: Read's own, and the lengths of the two outputs
unfoldable pub mend_given : (file : Bytes) → (output lines : ℕ) → Given
mend_given f o l = file_given (mended f) (copy_output o ∷ lines_output l ∷ []) nothing

abbrev pub mend_refusal : (file : Bytes) → (output lines : ℕ) → Refusal
mend_refusal f o l = refusal mend (mend_given f o l)

unfoldable pub lines_of : (file : Bytes) → Bytes
lines_of f = lines_joined (map alteration_line (altered f))

-- the documents' values of the two answers: the lengths of the mended file and of its lines; number and cell of the refusal
unfoldable pub mended_of : (file : Bytes) → Refusal → Result Mended Refusal
mended_of f r = answered r (record { file = length (mended f); lines = length (lines_of f) })

-- the output for the file after it: the mended file, the rest as it was; of a refusal as it was
unfoldable pub file_after : Result Mended Refusal → (file out : Bytes) → Bytes
file_after (Ok m) f out = mended f ++ drop m.file out
file_after (Err r) f out = out

-- the output for the lines likewise
unfoldable pub lines_after : Result Mended Refusal → (file lines : Bytes) → Bytes
lines_after (Ok m) f lines = lines_of f ++ drop m.lines lines
lines_after (Err r) f lines = lines

-- the lengths that question 1 asks for suffice
unfoldable pub file_size : Result Mended Refusal → ℕ
file_size (Ok m) = m.file
file_size (Err r) = 0

unfoldable pub lines_length : Result Mended Refusal → ℕ
lines_length (Ok m) = m.lines
lines_length (Err r) = 0

-- a call: the answer, and each output before and after it
pub record Mends (f out out' lines lines' : Bytes) (r : Result Mended Refusal) : Type 0 where
  pub answers : r ≡ mended_of f (mend_refusal f (length out) (length lines))
  pub bytes : out' ≡ file_after r f out
  pub told : lines' ≡ lines_after r f lines
  pub suffices : (file_size r ≤ most_file) × (lines_length r ≤ lines_size)

-- ---- where no question refuses: Read accepts the mended file, and every byte of it and of its lines is there, the rest of the outputs as it was
pub record MendGives (f out out' lines lines' : Bytes) (r : Result Mended Refusal) : Type 0 where
  pub answers : r ≡ Ok (record { file = length f; lines = length (lines_of f) })
  pub bytes : out' ≡ mended f ++ drop (length f) out
  pub told : lines' ≡ lines_of f ++ drop (length (lines_of f)) lines
  pub accepted : would_get (mended f) ≡ none
