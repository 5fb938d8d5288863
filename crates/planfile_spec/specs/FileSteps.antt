-- The steps of the sequence as Read and Label take them: what the code does, one by one. Nothing that a reader must believe stands here.
-- Assumes nothing.
use Rattle.std.specs.Prelude.{List, [], Bool, ◌&&◌, cond, ℕ, ◌+◌, ◌*◌, eqb, leb, length, get_or, take}
use Rattle.plan.specs.Limits.{between, most_cells, most_allowance, least_file, most_file, trailer_size, first_letter, last_letter, most_label}
use Rattle.plan.specs.Forms.{marked, record_size, widest}
use Rattle.plan.specs.Records.{cells_of}
use Rattle.plan.specs.Columns.{table_of}
use Rattle.plan.specs.Kinds.{bordered}
use Rattle.plan.specs.Questions.{none, asked, or_else, at_each, every}
use Rattle.plan.specs.Steps.{cell_refusal, tree_refusal}
use Rattle.plan.specs.declared.Refusal.{Refusal}
use Rattle.plan.specs.declared.forms.Form.{Form}
use Rattle.plan.specs.declared.forms.Form.TheVariants.{Old}
use Rattle.planfile_spec.specs.Read.{Reading}
use Rattle.planfile_spec.specs.Format.{trailer_of, form, record_at, entry, records_of}
use Rattle.planfile_spec.specs.Reading.{columns_of}

-- question 9, for a label of so many bytes at a start
abbrev pub inside : (begin size start : ℕ) → Bool
inside begin l s = leb l most_label && leb (s + l) begin

-- questions 6 to 10 at one record
unfoldable pub record_refusal : (form : Form) (begin c p k w d l s : ℕ) → Refusal
record_refusal form begin c p k w d l s =
    or_else (cell_refusal (widest form) c p k w d) (or_else (asked 9 (inside begin l s) c) (asked 10 (bordered k l w) c))

abbrev pub entry_refusal : List ℕ → ℕ → Refusal
entry_refusal f c =
    let r = entry f c in
    record_refusal (form f) (trailer_of f).begin c r.parent r.kind r.width r.depth r.label_length r.label_start

abbrev pub records_at : (form : Form) (begin : ℕ) (ps ks ws ds ls ss : List ℕ) (c : ℕ) → Refusal
records_at form begin ps ks ws ds ls ss c =
    record_refusal form begin c (get_or ps c 0) (get_or ks c 0) (get_or ws c 0) (get_or ds c 0) (get_or ls c 0) (get_or ss c 0)

-- questions 6 to 14, from columns
unfoldable pub columns_refusal : Reading → Form → (begin : ℕ) → Refusal
columns_refusal p form begin =
    let t = p.columns in
    or_else (at_each (records_at form begin t.parent t.kind t.width t.depth p.label_length p.label_start) 0 t.count)
    (or_else (tree_refusal (table_of t)) (asked 14 (leb p.allowance most_allowance) 0))

abbrev pub blank_reading : Refusal → Reading
blank_reading r = columns_of r 0 0 (record_at Old [])

-- question 4
abbrev pub counted : (form : Form) (size begin n : ℕ) → Bool
counted form size begin n = between 1 most_cells n && eqb (begin + record_size form * n + trailer_size) size

module _ (f : List ℕ) where
  -- questions 2 to 4
  unfoldable pub formed_refusal : Refusal
  formed_refusal =
      or_else (asked 2 (between least_file most_file (length f)) 0)
      (or_else (asked 3 (marked (trailer_of f).mark) 0)
      (asked 4 (counted (form f) (length f) (trailer_of f).begin (trailer_of f).count) 0))

  -- questions 2 to 5
  unfoldable pub header_refusal : Refusal
  header_refusal = or_else formed_refusal (asked 5 (every (between first_letter last_letter) (take (trailer_of f).begin f)) 0)

  -- questions 6 to 14
  unfoldable pub body_refusal : Refusal
  body_refusal =
      or_else (at_each (entry_refusal f) 0 (trailer_of f).count)
      (or_else (tree_refusal (cells_of (records_of f))) (asked 14 (leb (trailer_of f).allowance most_allowance) 0))

  -- questions 2 to 14
  unfoldable pub file_refusal : Refusal
  file_refusal = or_else header_refusal body_refusal

  -- the plan, if none of them refuses it
  unfoldable pub examined : Reading
  examined = cond (eqb file_refusal.number 0) (columns_of none (trailer_of f).allowance (trailer_of f).count (entry f)) (columns_of file_refusal 0 0 (entry f))
