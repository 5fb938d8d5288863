-- READ, THEN LABEL AND LAYOUT, of a file that Read accepts. Apart from the laws that it rests on, so that each is refused by itself where it is wrong. Assumes nothing.
use Rattle.std.specs.Prelude.{◌≡◌, List, [], ◌∷◌, ℕ, ◌+◌, ◌*◌, ◌≤◌, ◌<◌, leb}
use Rattle.std.proofs.Common.{ap}
use Rattle.plan.specs.Limits.{most_cells, scratch_size}
use Rattle.plan.specs.Records.{cells_of}
use Rattle.plan.specs.Questions.{to_fill, nothing, none, asked, read, layout, refusal, layout_given}
use Rattle.plan.proofs.Laws.Questions.{both-none}
use Rattle.plan.specs.declared.Refusal.{Refusal}
use Rattle.planfile_spec.specs.Format.{trailer_of, entry, records_of, file_given}
use Rattle.planfile_spec.specs.Reading.{label_refusal, label_part}
use Rattle.planfile_spec.specs.FileSteps.{file_refusal}
use Rattle.planfile_spec.proofs.Laws.File.{read_refusal}
use Rattle.planfile_spec.proofs.Laws.Examined.{zero_of}
use Rattle.planfile_spec.proofs.Laws.ReadThen.{file-label, file-layout, part_of_record}

-- ---- READ, THEN LABEL AND LAYOUT. A file that Read, with a table of so many records to fill, does not refuse
module _ (f : List ℕ) (room : ℕ) (e : refusal read (file_given f (to_fill room ∷ []) nothing) ≡ none) where
  pub file-passes : (file_refusal f).number ≡ 0
  file-passes = (both-none (asked 1 (leb most_cells room) 0) (file_refusal f) (zero_of _ _ (read_refusal f room) (ap (λ (r : Refusal). r.number) e))).1

  pub read-then-label : (c : ℕ) → c < (trailer_of f).count
      → (label_refusal f c ≡ none) × (label_part f c ≡ record { start = (entry f c).label_start; end = (entry f c).label_start + (entry f c).label_length })
  read-then-label c h = let k = file-label f file-passes c h in (k, part_of_record f c k)

  pub read-then-layout : (s p : ℕ) → scratch_size ≤ s → 2 * (trailer_of f).count ≤ p
      → refusal layout (layout_given (cells_of (records_of f)) (trailer_of f).allowance s p) ≡ none
  read-then-layout = file-layout f file-passes
