-- WHAT READ ACCEPTS, LABEL AND LAYOUT ACCEPT: no cell of it is refused its label, and the table is laid out where the buffers are long enough.
-- Assumes nothing.
use Rattle.std.specs.Prelude.{◌≡◌, refl, List, Bool, true, false, ℕ, ◌+◌, ◌*◌, ◌≤◌, ◌<◌, T, leb, length}
use Rattle.std.proofs.Common.{ap, ◌∙◌, arith, le→leb, lt→ltb, eq-eqb}
use Rattle.whole.proofs.Laws.Says.{both, says_le}
use Rattle.plan.specs.Limits.{between, most_cells, most_width, most_allowance, scratch_size}
use Rattle.plan.specs.Forms.{widest}
use Rattle.plan.proofs.Laws.Form.{widest_low}
use Rattle.plan.specs.Plan.{Table}
use Rattle.plan.specs.Records.{cells_of}
use Rattle.plan.specs.Questions.{none, asked, or_else, at_each, layout, refusal, layout_given}
use Rattle.plan.proofs.Laws.Questions.{first-none, both-none, asked_yes, each_none, each_same}
use Rattle.plan.specs.Steps.{cell_refusal, cells_refusal, children_refusal, levels_refusal, rows_refusal, tree_refusal, table_refusal, lent_refusal}
use Rattle.plan.proofs.Laws.Steps.{Passed, cell-passed, sized-within}
use Rattle.plan.proofs.Laws.Kept.{none_first, each-nothing}
use Rattle.plan.proofs.Laws.Calls.{layout-refusal}
use Rattle.plan.specs.declared.Refusal.{Refusal}
use Rattle.planfile_spec.specs.Format.{trailer_of, form, entry, records_of}
use Rattle.planfile_spec.specs.Reading.{label_refusal, label_part}
use Rattle.planfile_spec.specs.FileSteps.{record_refusal, entry_refusal, header_refusal, body_refusal, file_refusal}
use Rattle.planfile_spec.proofs.Laws.File.{cells-length, parent_is, kind-is, width_is, depth_is, label_refusal-is}
use Rattle.planfile_spec.proofs.Laws.Examined.{header_read}

-- ---- a refusal whose number is 0 is none: of one question, of the first of two, of each of several cells
asked-none : (k : ℕ) (b : Bool) (c : ℕ) → T b → asked k b c ≡ none
unfolding asked
asked-none k true c h = refl
asked-none k false c h = absurd h

each_are_none : (f : ℕ → Refusal) (n : ℕ) → ((c : ℕ) → c < n → f c ≡ none) → at_each f 0 n ≡ none
each_are_none f n h = each_same f (λ _. none) n h ∙ each-nothing (λ _. none) 0 n (λ _. refl)

none_both : (a b : Refusal) → a ≡ none → b ≡ none → or_else a b ≡ none
none_both a b e f = rw (e, f) (none_first none)

-- a width that a narrower limit passes, a wider one passes too
cell-none : (m n c p k w d : ℕ) → m ≤ n → (cell_refusal m c p k w d).number ≡ 0 → cell_refusal n c p k w d ≡ none
unfolding cell_refusal
cell-none m n c p k w d l z =
    let h : Passed m c p k w d = unfold cell_refusal in cell-passed m c p k w d z in
    none_both _ _ (asked-none 6 _ c h.is_lower) (none_both _ _ (asked-none 7 _ c h.is_known) (asked-none 8 _ c (sized-within m n w d l h.is_sized)))

tree-none : (t : Table) → (tree_refusal t).number ≡ 0 → tree_refusal t ≡ none
unfolding tree_refusal children_refusal levels_refusal rows_refusal
tree-none t z =
    let (a, r) = both-none _ _ z in
    let (b, c) = both-none _ _ r in
    none_both _ _ (each_are_none _ (length t) (λ s i. asked-none 11 _ s (asked_yes 10 _ s (each_none _ (length t) a s i))))
    (none_both _ _ (each_are_none _ (length t) (λ s i. asked-none 12 _ s (asked_yes 11 _ s (each_none _ (length t) b s i))))
    (each_are_none _ (length t) (λ s i. asked-none 13 _ s (asked_yes 12 _ s (each_none _ (length t) c s i)))))

-- ---- a file that questions 2 to 14 pass
module _ (f : List ℕ) (z : (file_refusal f).number ≡ 0) where
  abbrev n : ℕ
  n = (trailer_of f).count

  header : (header_refusal f).number ≡ 0
  unfolding file_refusal
  header = (both-none (header_refusal f) (body_refusal f) z).0

  body : (body_refusal f).number ≡ 0
  unfolding file_refusal
  body = (both-none (header_refusal f) (body_refusal f) z).1

  record_passes : (c : ℕ) → c < n → (cell_refusal (widest (form f)) c (entry f c).parent (entry f c).kind (entry f c).width (entry f c).depth).number ≡ 0
  unfolding body_refusal record_refusal
  record_passes c h = (both-none _ _ (each_none (entry_refusal f) n (both-none _ _ body).0 c h)).0

  cells-none : cells_refusal (cells_of (records_of f)) ≡ none
  unfolding cells_refusal
  cells-none =
      each_are_none _ (length (cells_of (records_of f))) (λ c i.
      let h : c < n = omega (arith, cells-length f) in
      rw (parent_is f c h, kind-is f c h, width_is f c h, depth_is f c h) (cell-none (widest (form f)) most_width c _ _ _ _ (widest_low (form f)) (record_passes c h)))

  trees_none : tree_refusal (cells_of (records_of f)) ≡ none
  unfolding body_refusal
  trees_none = tree-none _ (both-none _ _ (both-none _ _ body).1).0

  allowance_small : asked 14 (leb (trailer_of f).allowance most_allowance) 0 ≡ none
  unfolding body_refusal
  allowance_small = asked-none 14 _ 0 (asked_yes 13 _ 0 (both-none _ _ (both-none _ _ body).1).1)

  counted : asked 4 (between 1 most_cells (length (cells_of (records_of f)))) 0 ≡ none
  counted =
      let h = (header_read f header).full in
      asked-none 4 _ 0 (rw (cells-length f) ((both (says_le 1 n) (says_le n most_cells)).show (h.some, h.few)))

  -- Label refuses no cell of it
  pub file-label : (c : ℕ) → c < n → label_refusal f c ≡ none
  file-label c h = label_refusal-is f c ∙ first-none (file_refusal f) _ z ∙ asked-none 16 _ 0 (lt→ltb c n h)

  -- Layout, with long enough buffers, does not refuse its table
  pub file-layout : (s p : ℕ) → scratch_size ≤ s → 2 * n ≤ p → refusal layout (layout_given (cells_of (records_of f)) (trailer_of f).allowance s p) ≡ none
  unfolding lent_refusal table_refusal
  file-layout s p a b =
      layout-refusal (cells_of (records_of f)) (trailer_of f).allowance s p
      ∙ none_both _ _ (asked-none 1 _ 0 (le→leb scratch_size s a))
      (none_both _ _
      (none_both _ _ counted (none_both _ _ (asked-none 1 _ 0 (rw (cells-length f) (le→leb (2 * n) p b))) (none_both _ _ cells-none trees_none)))
      allowance_small)

-- the part of the file that is the cell's label, as its record says
pub part_of_record : (f : List ℕ) (c : ℕ) → label_refusal f c ≡ none
    → label_part f c ≡ record { start = (entry f c).label_start; end = (entry f c).label_start + (entry f c).label_length }
unfolding label_part
part_of_record f c e = rw (eq-eqb (label_refusal f c).number 0 (ap (λ (r : Refusal). r.number) e))
