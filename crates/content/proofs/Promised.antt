-- DOCUMENT 02, E4: WHAT IS PROMISED OF A CLEAN COPY. Statements only; the proofs are in laws/. Assumes nothing.
use Rattle.std.specs.Prelude.{◌≡◌, List, [], ◌∷◌, ℕ, ◌≤◌}
use Rattle.std.proofs.Common.{ap}
use Rattle.plan.specs.Limits.{most_cells, most_file}
use Rattle.plan.specs.Questions.{to_fill, nothing, none, read, refusal}
use Rattle.plan.specs.declared.Record.{Record}
use Rattle.planfile_spec.specs.Format.{trailer_of, records_of, file_given}
use Rattle.content.specs.Content.{content, letters_of, file_content}
use Rattle.content.specs.Clean.{clean, copy, file_copy, copy_refusal}
use Rattle.content.proofs.Laws.Clean.{clean-content}
use Rattle.content.proofs.Laws.Promised.{copied_read, read-then-copy}

-- "What Read accepts and the writer writes": the writer refuses nothing that Read accepted
pub read_copied : (f : List ℕ) (table output : ℕ) → (refusal read (file_given f (to_fill table ∷ []) nothing)).number ≡ 0 → most_file ≤ output
    → (copy_refusal (records_of f) (letters_of f) (trailer_of f).allowance output).number ≡ 0
read_copied f table output z h = read-then-copy f table output z h

-- "Read accepts with the same fathers, kinds, widths, depths, label texts and allowance" (and ranks, E13): whatever the writer writes
pub copy_read : (rs : List Record) (letters : List ℕ) (al output table : ℕ) → (copy_refusal rs letters al output).number ≡ 0 → most_cells ≤ table
    → (refusal read (file_given (copy rs letters al) (to_fill table ∷ []) nothing) ≡ none) × (file_content (copy rs letters al) ≡ content rs letters al)
copy_read rs letters al output table z h = (copied_read rs letters al output z table h, clean-content (content rs letters al))

-- "two files with the same such content give the same clean copy"
pub copy-same : (f f' : List ℕ) → file_content f ≡ file_content f' → file_copy f ≡ file_copy f'
copy-same f f' e = ap clean e

-- "and a clean copy gives itself"
pub copy_again : (rs : List Record) (letters : List ℕ) (al : ℕ) → file_copy (copy rs letters al) ≡ copy rs letters al
copy_again rs letters al = ap clean (clean-content (content rs letters al))
