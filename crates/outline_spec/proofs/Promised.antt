-- WHAT IS PROMISED OF OUTLINES. Statements only; the proofs are in laws/. Assumes nothing.
use Rattle.std.specs.Prelude.{◌≡◌, List, [], ◌∷◌, ℕ, ◌≤◌, ◌<◌, length, get_or}
use Rattle.std.proofs.Common.{ap}
use Rattle.plan.specs.Limits.{most_cells, least_file, most_file}
use Rattle.plan.specs.Plan.{rank}
use Rattle.plan.specs.Records.{cells_of}
use Rattle.plan.specs.Questions.{to_fill, nothing, read, refusal}
use Rattle.plan.specs.declared.Record.{Record}
use Rattle.planfile_spec.specs.Format.{file_given}
use Rattle.listing.specs.Printed.{Bytes}
use Rattle.content.specs.Content.{Content, content, file_content}
use Rattle.content.specs.Clean.{clean, copy_refusal}
use Rattle.content.proofs.Laws.Promised.{copy_passed}
use Rattle.outline_spec.specs.Outline.{outline}
use Rattle.outline_spec.specs.Understood.{most_byte, plan, understood}
use Rattle.outline_spec.specs.declared.Fault.{Fault}
use Rattle.outline_spec.specs.Faults.{fault_number, fault_of}
use Rattle.outline_spec.specs.Refused.{content_refusal}
use Rattle.outline_spec.proofs.Laws.Accepted.{file-back, table-back}
use Rattle.outline_spec.proofs.Laws.Told.{understood_again, one-content}
use Rattle.outline_spec.proofs.Laws.Refused.{said-other, refused-read}
use Rattle.outline_spec.proofs.Laws.Faults.{fault-back}

-- every plan file that Read accepts has an outline that says its content, cell by cell: parents, kinds, widths, depths, ranks, label texts, and the allowance
pub read_outlined : (f : List ℕ) (table : ℕ) → ((i : ℕ) → get_or f i 0 ≤ most_byte) → (refusal read (file_given f (to_fill table ∷ []) nothing)).number ≡ 0
    → understood (outline (file_content f)) ≡ plan (file_content f)
read_outlined f table bytes z = file-back f bytes table z

-- and so has every table with its label bytes that the writer of clean copies accepts
pub copy_outlined : (rs : List Record) (letters : List ℕ) (al output : ℕ) → ((c : ℕ) → c < length rs → rank (cells_of rs) c ≤ most_byte) → (copy_refusal rs letters al output).number ≡ 0
    → understood (outline (content rs letters al)) ≡ plan (content rs letters al)
copy_outlined rs letters al output bytes z = table-back rs letters al (copy_passed rs letters al output z).1 bytes

-- THE form of a text: the outline of what it says. It says the same, so it is its own form
pub outline_again : (t : Bytes) (c : Content) → understood t ≡ plan c → understood (outline c) ≡ plan c
outline_again t c e = understood_again t c e

-- plans of one content have one outline
pub outline-same : (f f' : List ℕ) → file_content f ≡ file_content f' → outline (file_content f) ≡ outline (file_content f')
outline-same f f' e = ap outline e

-- and plans of one outline one content: of files that Read accepts
pub outline-only : (f f' : List ℕ) (table table' : ℕ) → ((i : ℕ) → get_or f i 0 ≤ most_byte) → ((i : ℕ) → get_or f' i 0 ≤ most_byte) → (refusal read (file_given f (to_fill table ∷ []) nothing)).number ≡ 0
    → (refusal read (file_given f' (to_fill table' ∷ []) nothing)).number ≡ 0 → outline (file_content f) ≡ outline (file_content f') → file_content f ≡ file_content f'
outline-only f f' table table' b b' z z' e = one-content _ _ (file-back f b table z) (file-back f' b' table' z') e

-- what a text says may have a number or a tree that the questions refuse; 5 (a label's bytes), 6 (the parent), 7 (the kind) and 14 (the allowance) refuse none of it
pub said-refused : (t : Bytes) (c : Content) (output : ℕ) → understood t ≡ plan c
    → ¬ ((content_refusal c output).number ≡ 5) × ¬ ((content_refusal c output).number ≡ 6) × ¬ ((content_refusal c output).number ≡ 7) × ¬ ((content_refusal c output).number ≡ 14)
said-refused t c output e = said-other t c output e

-- and what refuses it is Read's refusal of the file that would be made, of the size of a file: 4, where there is no cell, and 9, where labels are too long for a file, are Copy's own
pub refused_as_read : (c : Content) → least_file ≤ length (clean c) → length (clean c) ≤ most_file → content_refusal c most_file ≡ refusal read (file_given (clean c) (to_fill most_cells ∷ []) nothing)
refused_as_read c low high = refused-read c low high

-- a fault is told by its number
pub fault-told : (f : Fault) → fault_of (fault_number f) ≡ f
fault-told f = fault-back f
