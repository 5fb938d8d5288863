-- WHERE A LABEL STANDS IN THE FILE (document 01). Statements only; the proofs are in laws/. Assumes nothing.
use Rattle.std.specs.Prelude.{◌≡◌, List, ℕ, ◌+◌, ◌≤◌, length}
use Rattle.plan.specs.Questions.{none}
use Rattle.planfile_spec.specs.Format.{entry}
use Rattle.planfile_spec.specs.Reading.{label_refusal, label_part}
use Rattle.planfile_spec.proofs.Laws.Label.{part_none, part-inside}
use Rattle.planfile_spec.proofs.Laws.ReadThen.{part_of_record}

-- "returns a cell's label as that part of the file's own bytes": from the label's start, as many bytes as the record says
pub label_there : (f : List ℕ) (c : ℕ) → label_refusal f c ≡ none
    → label_part f c ≡ record { start = (entry f c).label_start; end = (entry f c).label_start + (entry f c).label_length }
label_there = part_of_record

-- "refused, it returns the empty part at byte 0"
pub label-nowhere : (f : List ℕ) (c : ℕ) → ¬ ((label_refusal f c).number ≡ 0) → label_part f c ≡ record { start = 0; end = 0 }
label-nowhere = part_none

-- refused or not, the part lies in the file
pub label_inside : (f : List ℕ) (c : ℕ) → ((label_part f c).start ≤ (label_part f c).end) × ((label_part f c).end ≤ length f)
label_inside = part-inside
