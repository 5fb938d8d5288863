-- A FOLDER, FILE BY FILE (document 02, E14): calls of Report, one for each file, and the files that Read accepts. Assumes nothing.
use Rattle.std.specs.Prelude.{cond, List, [], ◌∷◌, ℕ, ◌*◌, ◌≤◌, eqb, ℤ, length, Result}
use Rattle.plan.specs.Limits.{most_cells, scratch_size}
use Rattle.plan.specs.Questions.{to_fill, nothing, read, refusal}
use Rattle.plan.specs.declared.Record.{Record}
use Rattle.plan.specs.declared.Refusal.{Refusal}
use Rattle.planfile_spec.specs.Format.{file_given}
use Rattle.season.specs.declared.Report.{Report}
use Rattle.reporting.specs.Reporting.{Reports}

-- Read's refusal of a file, for a table to fill of so many records
abbrev pub read_no : List ℕ → (room : ℕ) → Refusal
read_no f room = refusal read (file_given f (to_fill room ∷ []) nothing)

-- "A file that Read refuses gets that refusal and adds nothing": the others
unfoldable pub accepted : List (List ℕ) → List (List ℕ)
accepted [] = []
accepted (f ∷ fs) = let rest = accepted fs in cond (eqb (read_no f most_cells).number 0) (f ∷ rest) rest

-- calls of Report, one for each file, each with buffers that are long enough, and what they answered
pub data Answered : List (List ℕ) → List (Result Report Refusal) → Type 0 where
  no_file : Answered [] []
  next : {f : List ℕ} {t t' : List Record} {s s' : List ℕ} {ps ps' : List ℤ} {r : Result Report Refusal} {fs : List (List ℕ)} {rs : List (Result Report Refusal)}
      → Reports f t t' s s' ps ps' r → most_cells ≤ length t → scratch_size ≤ length s → 2 * most_cells ≤ length ps → Answered fs rs → Answered (f ∷ fs) (r ∷ rs)
