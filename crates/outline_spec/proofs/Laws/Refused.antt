-- What can be refused of what a text says, and that it is what Read would refuse. Assumes nothing.
use Rattle.std.specs.Prelude.{◌≡◌, Bool, true, false, cond, ℕ, zero, suc, ◌+◌, ◌*◌, ◌≤◌, T, eqb, leb, length, take}
use Rattle.std.proofs.Math.Path.{refl, sym, ap}
use Rattle.std.proofs.Common.{subst, ◌∙◌, arith, le→leb}
use mathlib.Core.List.{List, [], ◌∷◌, ◌++◌, map}
use Rattle.std.proofs.Math.Dec.{eqb_refl}
use borrow.Author.Tests.{le-leb}
use Rattle.plan.specs.Limits.{between, most_cells, most_allowance, most_file, least_file, most_width, old_width, trailer_size}
use Rattle.plan.specs.Forms.{marked, record_size, widest}
use Rattle.plan.specs.Lists.{from}
use Rattle.plan.specs.Plan.{Table}
use Rattle.plan.specs.Records.{cells_of}
use Rattle.plan.specs.Questions.{lower, sized, asked, or_else, at_each, every, read, refusal, to_fill, nothing}
use Rattle.plan.specs.Steps.{cell_refusal, tree_refusal, children_refusal, levels_refusal, rows_refusal}
use Rattle.plan.specs.Kinds.{known, bordered}
use Rattle.plan.proofs.Laws.Questions.{first-none}
use Rattle.plan.proofs.Laws.Kept.{or_assoc, and_true}
use Rattle.plan.specs.declared.Record.{Record}
use Rattle.plan.specs.declared.Refusal.{Refusal}
use Rattle.plan.specs.declared.forms.Form.{Form}
use Rattle.plan.specs.declared.forms.Form.TheVariants.{Old, Wide}
use Rattle.planfile_spec.specs.declared.Trailer.{Trailer}
use Rattle.planfile_spec.specs.Format.{trailer_of, form, entry, records_of, file_given}
use Rattle.planfile_spec.specs.FileSteps.{inside, record_refusal, entry_refusal, counted, formed_refusal, header_refusal, body_refusal, file_refusal}
use Rattle.planfile_spec.proofs.Laws.File.{read_refusal}
use Rattle.content.specs.Content.{Item, Content, letters_of}
use Rattle.content.specs.Clean.{form_for, mark_of, labels, record_of, entries, clean}
use Rattle.content.proofs.Laws.Clean.{clean_trailer, clean-length, clean-form, clean-records, clean-letters, entries-length}
use Rattle.content.proofs.Laws.Asked.{copy_steps, copy-asks, each_row}
use Rattle.content.proofs.Laws.Asked as rows
use Rattle.content.proofs.Laws.Fine.{letter, asked_zero, every_append, Taken, AllTaken, form-taken}
use Rattle.content.proofs.Laws.Promised.{mark-known}
use Rattle.outline_spec.specs.Outline.{level_under}
use Rattle.outline_spec.specs.Understood.{plan, understood}
use Rattle.outline_spec.specs.Refused.{content_refusal}
use Rattle.outline_spec.proofs.Laws.Back.{AllWritable}
use Rattle.outline_spec.proofs.Laws.Told.{understood-told}

-- ---- a refusal that is for none of 5, 6, 7 and 14
abbrev Other : ℕ → Type 0
Other n = ¬ (n ≡ 5) × ¬ (n ≡ 6) × ¬ (n ≡ 7) × ¬ (n ≡ 14)

other_or : (a b : Refusal) → Other a.number → Other b.number → Other (or_else a b).number
unfolding or_else
other_or a b p q = go (eqb a.number 0)
  where
    go : (y : Bool) → Other (cond y b a).number
    go true = q
    go false = p

other_none : Other 0
other_none = ((λ e. omega arith), (λ e. omega arith), (λ e. omega arith), (λ e. omega arith))

-- a question of another number, whatever is answered
other-asked : (k : ℕ) (b : Bool) (c : ℕ) → Other k → Other (asked k b c).number
unfolding asked
other-asked k true c h = other_none
other-asked k false c h = h

-- a question that is answered with yes
other_yes : (k : ℕ) (b : Bool) (c : ℕ) → T b → Other (asked (suc k) b c).number
other_yes k b c h = subst Other (sym (asked_zero k b c h)) other_none

other-each : (f : ℕ → Refusal) → ((c : ℕ) → Other (f c).number) → (k d : ℕ) → Other (at_each f k d).number
unfolding at_each
other-each f h k zero = other_none
other-each f h k (suc d) = other_or (f k) (at_each f (suc k) d) (h k) (other-each f h (suc k) d)

abbrev other : (k : ℕ) → ¬ (k ≡ 5) → ¬ (k ≡ 6) → ¬ (k ≡ 7) → ¬ (k ≡ 14) → Other k
other k a b c d = (a, b, c, d)

other-tree : (t : Table) → Other (tree_refusal t).number
unfolding tree_refusal children_refusal levels_refusal rows_refusal
other-tree t =
    other_or _ _ (other-each _ (λ c. other-asked 11 _ c (other 11 (λ e. omega arith) (λ e. omega arith) (λ e. omega arith) (λ e. omega arith))) 0 (length t))
    (other_or _ _ (other-each _ (λ c. other-asked 12 _ c (other 12 (λ e. omega arith) (λ e. omega arith) (λ e. omega arith) (λ e. omega arith))) 0 (length t))
    (other-each _ (λ c. other-asked 13 _ c (other 13 (λ e. omega arith) (λ e. omega arith) (λ e. omega arith) (λ e. omega arith))) 0 (length t)))

other_row : (room c p k w d l s : ℕ) → T (lower c p) → T (known k) → Other (record_refusal Wide room c p k w d l s).number
unfolding record_refusal cell_refusal
other_row room c p k w d l s a b =
    other_or _ _
    (other_or _ _ (other_yes 5 (lower c p) c a) (other_or _ _ (other_yes 6 (known k) c b) (other-asked 8 (sized (widest Wide) w d) c (other 8 (λ e. omega arith) (λ e. omega arith) (λ e. omega arith) (λ e. omega arith)))))
    (other_or _ _ (other-asked 9 (inside room l s) c (other 9 (λ e. omega arith) (λ e. omega arith) (λ e. omega arith) (λ e. omega arith)))
    (other-asked 10 (bordered k l w) c (other 10 (λ e. omega arith) (λ e. omega arith) (λ e. omega arith) (λ e. omega arith))))

other-rows : (room c s : ℕ) (seen : List ℕ) (is : List Item) → AllWritable c seen is → Other (rows.rows_refusal Wide room c (entries s is)).number
unfolding rows.rows_refusal entries record_of
other-rows room c s seen [] h = other_none
other-rows room c s seen (i ∷ is) h =
    other_or _ _ (other_row room c i.cell.parent i.cell.kind i.cell.width i.cell.depth (length i.text) s h.0.is_lower h.0.is_known)
    (other-rows room (suc c) (s + length i.text) (seen ++ (level_under seen i.cell.parent ∷ [])) is h.1)

labels-fine : (c : ℕ) (seen : List ℕ) (is : List Item) → AllWritable c seen is → T (every letter (labels is))
unfolding labels every
labels-fine c seen [] h = tt
labels-fine c seen (i ∷ is) h = every_append letter i.text (labels is) h.0.printable (labels-fine (suc c) _ is h.1)

pub said-other : (t : List ℕ) (c : Content) (room : ℕ) → understood t ≡ plan c
    → ¬ ((content_refusal c room).number ≡ 5) × ¬ ((content_refusal c room).number ≡ 6) × ¬ ((content_refusal c room).number ≡ 7) × ¬ ((content_refusal c room).number ≡ 14)
unfolding content_refusal copy_steps
said-other t c room e =
    let h = understood-told t c e in
    let q = copy-asks (entries 0 c.items) (labels c.items) c.allowance room in
    subst (λ (x : Refusal). Other x.number) (sym q)
    (other_or _ _ (other-asked 1 (leb most_file room) 0 (other 1 (λ e. omega arith) (λ e. omega arith) (λ e. omega arith) (λ e. omega arith)))
    (other_or _ _ (other-asked 4 (between 1 most_cells (length (entries 0 c.items))) 0 (other 4 (λ e. omega arith) (λ e. omega arith) (λ e. omega arith) (λ e. omega arith)))
    (other_or _ _ (other_yes 4 (every letter (labels c.items)) 0 (labels-fine 0 [] c.items h.all))
    (other_or _ _ (other-rows (length (labels c.items)) 0 0 [] c.items h.all)
    (other_or _ _ (other-tree (cells_of (entries 0 c.items))) (other_yes 13 (leb c.allowance most_allowance) 0 (le→leb c.allowance most_allowance h.allowed_is)))))))

-- ---- as Read of the clean copy
-- question 8 in the old form and in the wide one, of a width that fits the old
sized_same : (w d : ℕ) → w ≤ old_width → sized (widest Old) w d ≡ sized (widest Wide) w d
unfolding sized widest
sized_same w d h = rw (le-leb w old_width h, le-leb w most_width (omega arith)) refl

record_same : (room c p k w d l s : ℕ) → w ≤ old_width → record_refusal Old room c p k w d l s ≡ record_refusal Wide room c p k w d l s
unfolding record_refusal cell_refusal
record_same room c p k w d l s h =
    ap (λ (b : Bool). or_else (or_else (asked 6 (lower c p) c) (or_else (asked 7 (known k) c) (asked 8 b c))) (or_else (asked 9 (inside room l s) c) (asked 10 (bordered k l w) c))) (sized_same w d h)

rows-wide : (form : Form) (room c s : ℕ) (is : List Item) → AllTaken form is → rows.rows_refusal form room c (entries s is) ≡ rows.rows_refusal Wide room c (entries s is)
unfolding rows.rows_refusal entries record_of Taken AllTaken
rows-wide Old room c s [] h = refl
rows-wide Wide room c s [] h = refl
rows-wide Old room c s (i ∷ is) h =
    cc (record_same room c i.cell.parent i.cell.kind i.cell.width i.cell.depth (length i.text) s h.0, rows-wide Old room (suc c) (s + length i.text) is h.1)
rows-wide Wide room c s (i ∷ is) h = refl

module _ (c : Content) where
  abbrev g : List ℕ
  g = clean c

  abbrev is : List Item
  is = c.items

  begin-is : (trailer_of g).begin ≡ length (labels is)
  begin-is = ap (λ (x : Trailer). x.begin) (clean_trailer c)

  count-is : (trailer_of g).count ≡ length is
  count-is = ap (λ (x : Trailer). x.count) (clean_trailer c)

  allowance_is : (trailer_of g).allowance ≡ c.allowance
  allowance_is = ap (λ (x : Trailer). x.allowance) (clean_trailer c)

  mark-is : (trailer_of g).mark ≡ mark_of (form_for is)
  mark-is = ap (λ (x : Trailer). x.mark) (clean_trailer c)

  letters-here : take (trailer_of g).begin g ≡ labels is
  unfolding letters_of
  letters-here = clean-letters c

  -- 4, of a file whose size is what its trailer says
  counted_is : counted (form g) (length g) (trailer_of g).begin (trailer_of g).count ≡ between 1 most_cells (length is)
  counted_is =
      rw (clean-form c, begin-is, count-is, clean-length c, eqb_same (length (labels is) + record_size (form_for is) * length is + trailer_size))
      (and_true (between 1 most_cells (length is)))
    where
      eqb_same : (n : ℕ) → eqb n n ≡ true
      eqb_same n = yes_true (eqb n n) (eqb_refl n)
        where
          yes_true : (b : Bool) → T b → b ≡ true
          yes_true true h = refl
          yes_true false h = absurd h

  module _ (low : least_file ≤ length (clean c)) (high : length (clean c) ≤ most_file) where
    formed_is : formed_refusal g ≡ asked 4 (between 1 most_cells (length is)) 0
    unfolding formed_refusal
    formed_is =
        first-none _ _ (asked_zero 1 (between least_file most_file (length g)) 0 (rw (le-leb least_file (length g) low, le-leb (length g) most_file high) tt))
        ∙ first-none _ _ (asked_zero 2 (marked (trailer_of g).mark) 0 (rw mark-is (mark-known (form_for is))))
        ∙ ap (λ (b : Bool). asked 4 b 0) counted_is

    body_is : body_refusal g ≡ or_else (rows.rows_refusal Wide (length (labels is)) 0 (entries 0 is)) (or_else (tree_refusal (cells_of (entries 0 is))) (asked 14 (leb c.allowance most_allowance) 0))
    unfolding body_refusal
    body_is =
        ap (λ (x : Refusal). or_else x (or_else (tree_refusal (cells_of (records_of g))) (asked 14 (leb (trailer_of g).allowance most_allowance) 0))) rows_are
        ∙ ap (λ (x : List Record). or_else (rows.rows_refusal Wide (length (labels is)) 0 (entries 0 is)) (or_else (tree_refusal (cells_of x)) (asked 14 (leb (trailer_of g).allowance most_allowance) 0))) (clean-records c)
        ∙ ap (λ (n : ℕ). or_else (rows.rows_refusal Wide (length (labels is)) 0 (entries 0 is)) (or_else (tree_refusal (cells_of (entries 0 is))) (asked 14 (leb n most_allowance) 0))) allowance_is
      where
        rows_are : at_each (entry_refusal g) 0 (trailer_of g).count ≡ rows.rows_refusal Wide (length (labels is)) 0 (entries 0 is)
        rows_are =
            each_row (form g) (trailer_of g).begin (entry g) 0 (trailer_of g).count
            ∙ ap (λ (x : List Record). rows.rows_refusal (form g) (trailer_of g).begin 0 x) (records_are ∙ clean-records c)
            ∙ ap (λ (n : ℕ). rows.rows_refusal (form g) n 0 (entries 0 is)) begin-is
            ∙ ap (λ (x : Form). rows.rows_refusal x (length (labels is)) 0 (entries 0 is)) (clean-form c)
            ∙ rows-wide (form_for is) (length (labels is)) 0 0 is (form-taken is)
          where
            records_are : map (entry g) (from 0 (trailer_of g).count) ≡ records_of g
            records_are = unfold records_of in refl

    file-is : file_refusal g ≡ copy_steps (entries 0 is) (labels is) c.allowance
    unfolding file_refusal header_refusal copy_steps
    file-is =
        ap (λ (x : Refusal). or_else (or_else x (asked 5 (every letter (take (trailer_of g).begin g)) 0)) (body_refusal g)) formed_is
        ∙ ap (λ (x : List ℕ). or_else (or_else (asked 4 (between 1 most_cells (length is)) 0) (asked 5 (every letter x) 0)) (body_refusal g)) letters-here
        ∙ ap (λ (x : Refusal). or_else (or_else (asked 4 (between 1 most_cells (length is)) 0) (asked 5 (every letter (labels is)) 0)) x) body_is
        ∙ or_assoc _ _ _
        ∙ ap (λ (n : ℕ). or_else (asked 4 (between 1 most_cells n) 0) (or_else (asked 5 (every letter (labels is)) 0) (or_else (rows.rows_refusal Wide (length (labels is)) 0 (entries 0 is)) (or_else (tree_refusal (cells_of (entries 0 is))) (asked 14 (leb c.allowance most_allowance) 0))))) (sym (entries-length 0 is))

    pub refused-read : content_refusal c most_file ≡ refusal read (file_given (clean c) (to_fill most_cells ∷ []) nothing)
    unfolding content_refusal
    refused-read =
        copy-asks (entries 0 is) (labels is) c.allowance most_file
        ∙ first-none (asked 1 (leb most_file most_file) 0) _ (asked_zero 0 (leb most_file most_file) 0 tt)
        ∙ sym (read_refusal g most_cells ∙ first-none (asked 1 (leb most_cells most_cells) 0) _ (asked_zero 0 (leb most_cells most_cells) 0 tt) ∙ file-is)
