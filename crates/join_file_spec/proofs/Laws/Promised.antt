-- What is promised of a joined file: the proofs. Assumes nothing.
use Rattle.std.specs.Prelude.{◌≡◌, T}
use Rattle.std.proofs.Math.Path.{refl, sym, ap}
use Rattle.std.proofs.Common.{◌∙◌, arith}
use mathlib.Core.List.{List, [], ◌∷◌, ◌++◌, map}
use Prim.Native.Nat.{ℕ, zero, suc, ◌+◌, ◌≤◌, ◌<◌}
use Rattle.std.proofs.Math.ListN.{length, get_or}
use Rattle.plan.specs.Limits.{most_cells, most_file}
use Rattle.plan.specs.Plan.{Table, Is, within}
use Rattle.plan.specs.Records.{cells_of}
use Rattle.plan.specs.Questions.{to_fill, nothing, none, read, refusal}
use Rattle.plan.specs.declared.Record.{Record}
use Rattle.plan.specs.declared.Refusal.{Refusal}
use Rattle.rules.specs.Placement.{left_extent, right_extent}
use Rattle.contours.specs.Sheet.{sheet}
use Rattle.planfile_spec.specs.Format.{trailer_of, records_of, file_given}
use Rattle.planfile_spec.specs.Reading.{reading_of, label_part}
use Rattle.planfile_spec.specs.FileSteps.{file_refusal}
use Rattle.planfile_spec.proofs.Laws.File.{cells-length}
use Rattle.planfile.specs.Subslice.{bytes_in}
use Rattle.content.specs.Content.{Item, Content, content, letters_of, file_content}
use Rattle.content.specs.Clean.{clean, copy, copy_refusal}
use Rattle.content.proofs.Laws.Asked.{copy_steps}
use Rattle.content.proofs.Laws.Clean.{clean-content}
use Rattle.content.proofs.Laws.Promised.{copy-accepted, copy_small, copied_read}
use Rattle.graft.specs.Joined.{raised, joined, joined_records}
use Rattle.graft.specs.Sequence.{join_refusal}
use Rattle.graft.proofs.Theorems as graft
use Rattle.graft.proofs.Laws.Hung.{length_behind, behind_first, behind_root, behind_later}
use Rattle.graft.proofs.Laws.Laid.{first_sound, second_sound}
use Rattle.graft.proofs.Laws.Sequence.{Accepted, accepted}
use Rattle.join_file_spec.specs.Contents.{item_under, joined_items, joined_content}
use Rattle.join_file_spec.specs.Joined.{joined_file, tables_refusal}
use Rattle.join_file_spec.proofs.Laws.Contents.{item_father, moved, joined_is, items-table, items-cells, cells_in}
use Rattle.join_file_spec.proofs.Laws.Asked.{joined-steps, joined_copied}
use Rattle.join_file_spec.proofs.Laws.Read.{no_item, read-passes, file-parts, all-inside, label-item, items-count}

-- ---- what holds of every two files
module _ (f : List ℕ) (c : ℕ) (g : List ℕ) where
  pub content-read : file_content (joined_file f c g) ≡ joined_content (file_content f) (file_content g) c
  unfolding joined_file
  content-read = clean-content (joined_content (file_content f) (file_content g) c)

  abbrev top : List Item
  top = (file_content f).items

  abbrev below : List Item
  below = (file_content g).items

  items-read : (file_content (joined_file f c g)).items ≡ joined_items top below c
  unfolding joined_content
  items-read = ap (λ (x : Content). x.items) content-read

  cells-read : (h : List ℕ) → cells_in (file_content h).items ≡ cells_of (records_of h)
  unfolding file_content content
  cells-read h = items-cells (letters_of h) (records_of h)

  pub table-read : cells_of (records_of (joined_file f c g)) ≡ joined (cells_of (records_of f)) (cells_of (records_of g)) c
  table-read =
      sym (cells-read (joined_file f c g)) ∙ ap (λ (x : List Item). cells_in x) items-read ∙ items-table top below c
      ∙ rw (cells-read f, cells-read g)

  count-read : (trailer_of (joined_file f c g)).count ≡ (trailer_of f).count + (trailer_of g).count
  unfolding joined_items
  count-read = sym (items-count (joined_file f c g)) ∙ ap length items-read ∙ length_behind item_father item_under top below c ∙ rw (items-count f, items-count g)

  -- ---- how far subtrees reach
  module _ (z : (tables_refusal f c g).number ≡ 0) where
    abbrev T₁ : Table
    T₁ = cells_of (records_of f)

    abbrev U₁ : Table
    U₁ = cells_of (records_of g)

    pub no-refusal : (join_refusal most_cells (cells_of (records_of f)) (cells_of (records_of g)) c).number ≡ 0
    unfolding tables_refusal
    no-refusal = z

    fine : Accepted most_cells T₁ U₁ c
    fine = accepted most_cells T₁ U₁ c no-refusal

    pub second_reaches : (al i : ℕ) → Is (cells_of (records_of g)) i
        → (left_extent (cells_of (records_of (joined_file f c g))) (sheet (cells_of (records_of (joined_file f c g))) al) ((trailer_of f).count + i) ≡ left_extent (cells_of (records_of g)) (sheet (cells_of (records_of g)) al) i)
        × (right_extent (cells_of (records_of (joined_file f c g))) (sheet (cells_of (records_of (joined_file f c g))) al) ((trailer_of f).count + i) ≡ right_extent (cells_of (records_of g)) (sheet (cells_of (records_of g)) al) i)
    second_reaches al i h =
        rw (table-read, ← cells-length f)
        (graft.second_reaches T₁ U₁ (first_sound most_cells T₁ U₁ c fine) (second_sound most_cells T₁ U₁ c fine) fine.some_first fine.some_second c fine.named al i h)

    pub first_reaches : (al i : ℕ) → Is (cells_of (records_of f)) i → ¬ T (within (cells_of (records_of f)) i c)
        → (left_extent (cells_of (records_of (joined_file f c g))) (sheet (cells_of (records_of (joined_file f c g))) al) i ≡ left_extent (cells_of (records_of f)) (sheet (cells_of (records_of f)) al) i)
        × (right_extent (cells_of (records_of (joined_file f c g))) (sheet (cells_of (records_of (joined_file f c g))) al) i ≡ right_extent (cells_of (records_of f)) (sheet (cells_of (records_of f)) al) i)
    first_reaches al i h n =
        rw table-read
        (graft.first_reaches T₁ U₁ (first_sound most_cells T₁ U₁ c fine) (second_sound most_cells T₁ U₁ c fine) fine.some_first fine.some_second c fine.named al i h n)

-- ---- two files that Read accepts, and that Join joins
module _ (f : List ℕ) (c : ℕ) (g : List ℕ) (a : (reading_of f most_cells).refusal.number ≡ 0) (b : (reading_of g most_cells).refusal.number ≡ 0) (z : (tables_refusal f c g).number ≡ 0) where
  abbrev J : List Record
  J = joined_records (records_of f) (map (moved (length (letters_of f))) (records_of g)) c

  abbrev letters : List ℕ
  letters = letters_of f ++ letters_of g

  -- the joined file is what the writer makes of the joined records
  pub file-is : copy (joined_records (records_of f) (map (moved (length (letters_of f))) (records_of g)) c) (letters_of f ++ letters_of g) (trailer_of f).allowance ≡ joined_file f c g
  unfolding joined_file file_content
  file-is = ap clean (joined_is (records_of f) (records_of g) (letters_of f) (letters_of g) (trailer_of f).allowance (trailer_of g).allowance c (all-inside f (read-passes f a)))

  -- and it refuses none of them
  pub file_copied : (room : ℕ) → most_file ≤ room
      → (copy_refusal (joined_records (records_of f) (map (moved (length (letters_of f))) (records_of g)) c) (letters_of f ++ letters_of g) (trailer_of f).allowance room).number ≡ 0
  file_copied =
      joined_copied (records_of f) (records_of g) (letters_of f) (letters_of g) (trailer_of f).allowance (trailer_of g).allowance c (file-parts f (read-passes f a)) (file-parts g (read-passes g b)) (no-refusal f c g z)

  steps : (copy_steps (joined_records (records_of f) (map (moved (length (letters_of f))) (records_of g)) c) (letters_of f ++ letters_of g) (trailer_of f).allowance).number ≡ 0
  steps =
      joined-steps (records_of f) (records_of g) (letters_of f) (letters_of g) (trailer_of f).allowance (trailer_of g).allowance c (file-parts f (read-passes f a)) (file-parts g (read-passes g b)) (no-refusal f c g z)

  pub file_small : length (joined_file f c g) ≤ most_file
  file_small = rw (← file-is) (copy_small J letters (trailer_of f).allowance steps)

  pub file-read : (table : ℕ) → most_cells ≤ table → refusal read (file_given (joined_file f c g) (to_fill table ∷ []) nothing) ≡ none
  file-read table h = rw (← file-is) (copied_read J letters (trailer_of f).allowance most_file (file_copied most_file (omega arith)) table h)

  passes : (file_refusal (joined_file f c g)).number ≡ 0
  passes = rw (← file-is) (ap (λ (x : Refusal). x.number) (copy-accepted J letters (trailer_of f).allowance steps))

  -- ---- the labels
  first-item : (i : ℕ) → i < (trailer_of f).count → get_or (file_content (joined_file f c g)).items i no_item ≡ get_or (file_content f).items i no_item
  unfolding joined_items
  first-item i h = ap (λ (x : List Item). get_or x i no_item) (items-read f c g) ∙ behind_first item_father item_under (top f c g) (below f c g) c no_item i (omega (arith, items-count f))

  pub first-label : (i : ℕ) → i < (trailer_of f).count → bytes_in (joined_file f c g) (label_part (joined_file f c g) i) ≡ bytes_in f (label_part f i)
  first-label i h =
      label-item (joined_file f c g) passes i (omega (arith, count-read f c g)) ∙ ap (λ (x : Item). x.text) (first-item i h) ∙ sym (label-item f (read-passes f a) i h)

  second-text : (i : ℕ) → i < (trailer_of g).count → (get_or (joined_items (top f c g) (below f c g) c) (length (top f c g) + i) no_item).text ≡ (get_or (below f c g) i no_item).text
  unfolding joined_items item_under
  second-text zero h = ap (λ (x : Item). x.text) (behind_root item_father item_under (top f c g) (below f c g) c no_item (omega (arith, items-count g)))
  second-text (suc i) h = ap (λ (x : Item). x.text) (behind_later item_father item_under (top f c g) (below f c g) c no_item (suc i) (omega arith) (omega (arith, items-count g))) ∙ raised-text
    where
      raised-text : (raised item_father item_under (length (top f c g)) (get_or (below f c g) (suc i) no_item)).text ≡ (get_or (below f c g) (suc i) no_item).text
      raised-text = unfold raised item_under in refl

  pub second-label : (i : ℕ) → i < (trailer_of g).count → bytes_in (joined_file f c g) (label_part (joined_file f c g) ((trailer_of f).count + i)) ≡ bytes_in g (label_part g i)
  second-label i h =
      label-item (joined_file f c g) passes ((trailer_of f).count + i) (omega (arith, count-read f c g))
      ∙ ap (λ (x : List Item). (get_or x ((trailer_of f).count + i) no_item).text) (items-read f c g)
      ∙ ap (λ (k : ℕ). (get_or (joined_items (top f c g) (below f c g) c) (k + i) no_item).text) (sym (items-count f))
      ∙ second-text i h ∙ sym (label-item g (read-passes g b) i h)
