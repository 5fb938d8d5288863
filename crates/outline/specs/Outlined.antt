-- WHAT THE WRITER OF OUTLINES ANSWERS, and what it leaves in the output, on every file. Assumes nothing.
use Rattle.std.specs.Prelude.{◌≡◌, cond, List, [], ◌∷◌, ◌++◌, ℕ, ◌≤◌, leb, length, drop, Result, Ok, Err}
use Rattle.plan.specs.Limits.{most_cells}
use Rattle.plan.specs.Questions.{to_fill, nothing, read, refusal, answered}
use Rattle.plan.specs.declared.Refusal.{Refusal}
use Rattle.planfile_spec.specs.Format.{file_given}
use Rattle.content.specs.Content.{file_content}
use Rattle.outline_spec.specs.Outline.{outline}

abbrev pub Outlined : Type 0
Outlined = Result ℕ Refusal

-- bytes of an output for an outline: more than the longest has
abbrev pub outline_size : ℕ
outline_size = 66560

-- the length of the outline, or Read's refusal
unfoldable pub outlined_by : (file : List ℕ) → Outlined
outlined_by f =
    answered (refusal read (file_given f (to_fill most_cells ∷ []) nothing)) (length (outline (file_content f)))

-- question 1 comes first, as in every call
unfoldable pub outlined_of : (file : List ℕ) → (output : ℕ) → Outlined
outlined_of f room = cond (leb outline_size room) (outlined_by f) (Err (record { number = 1; cell = 0 }))

-- the output after it: the outline, the rest as it was; of a refusal, as it was
unfoldable pub outlined_after : Outlined → (file out : List ℕ) → List ℕ
outlined_after (Ok n) f out = outline (file_content f) ++ drop n out
outlined_after (Err r) f out = out

-- bytes of the outline that is given
unfoldable pub size : Outlined → ℕ
size (Ok n) = n
size (Err r) = 0

pub record Outlines (f out out' : List ℕ) (d : Outlined) : Type 0 where
  pub answers : d ≡ outlined_of f (length out)
  pub output : out' ≡ outlined_after d f out
  pub suffices : size d ≤ outline_size
