-- The writer as the code does it: what it needs of the columns, and the questions put to them. Nothing that a reader must believe stands here. Assumes nothing.
use Rattle.std.specs.Prelude.{List, ℕ, leb, length, take}
use Rattle.plan.specs.Limits.{between, most_cells, most_allowance, most_file, first_letter, last_letter}
use Rattle.plan.specs.Columns.{table_of}
use Rattle.plan.specs.Questions.{asked, or_else, at_each, every}
use Rattle.plan.specs.Steps.{tree_refusal}
use Rattle.plan.specs.declared.Lettered.{Lettered}
use Rattle.plan.specs.declared.Refusal.{Refusal}
use Rattle.plan.specs.declared.forms.Form.TheVariants.{Wide}
use Rattle.planfile_spec.specs.FileSteps.{records_at}
use Rattle.copying_records.specs.Parts.{Texts}

abbrev pub Ready : Lettered → (letters : ℕ) → Type 0
Ready t letters = Texts t.label_length t.label_start t.columns.count letters

-- ---- the questions, from columns
unfoldable pub lettered_steps : Lettered → (letters : List ℕ) → (allowance room : ℕ) → Refusal
lettered_steps l letters al room =
    let t = l.columns in
    or_else (asked 1 (leb most_file room) 0)
    (or_else (asked 4 (between 1 most_cells t.count) 0)
    (or_else (asked 5 (every (between first_letter last_letter) (take (length letters) letters)) 0)
    (or_else (at_each (records_at Wide (length letters) t.parent t.kind t.width t.depth l.label_length l.label_start) 0 t.count)
    (or_else (tree_refusal (table_of t)) (asked 14 (leb al most_allowance) 0)))))
