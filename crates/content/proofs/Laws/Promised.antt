-- What the writer promises of the files that it writes. Assumes nothing.
use Rattle.std.specs.Prelude.{◌≡◌, List, [], ◌∷◌, map, ℕ, ◌+◌, ◌*◌, ◌≤◌, leb, take}
use Rattle.std.proofs.Math.Path.{refl, ap}
use Rattle.std.proofs.Common.{sym, ◌∙◌, arith, le→leb}
use Rattle.std.proofs.Math.Dec.{T, leb→le, eqb_refl}
use Rattle.std.proofs.Math.ListN.{length}
use Rattle.std.proofs.lemmas.List.{length-map}
use Rattle.std.proofs.Math.Seq.{length-take-le}
use Rattle.plan.specs.Limits.{between, most_cells, most_label, most_allowance, least_file, most_file, wide_size, trailer_size}
use Rattle.plan.specs.Forms.{marked, record_size}
use Rattle.plan.proofs.Laws.Form.{sizes, record_inside, records_short}
use Rattle.plan.specs.Lists.{from}
use Rattle.plan.specs.Plan.{Table}
use Rattle.plan.specs.Records.{bare, cells_of}
use Rattle.plan.specs.Questions.{to_fill, nothing, none, read, refusal, asked, at_each, every}
use Rattle.plan.specs.Steps.{tree_refusal}
use Rattle.plan.proofs.Laws.Questions.{first-none, both-none, asked_yes}
use Rattle.plan.proofs.Laws.Steps.{and_left, and_right}
use Rattle.plan.specs.declared.Record.{Record}
use Rattle.plan.specs.declared.Refusal.{Refusal}
use Rattle.plan.specs.declared.forms.Form.{Form}
use Rattle.plan.specs.declared.forms.Form.TheVariants.{Old, Wide}
use Rattle.planfile_spec.specs.declared.Trailer.{Trailer}
use Rattle.planfile_spec.specs.Format.{trailer_of, form, entry, records_of, file_given}
use Rattle.planfile_spec.specs.FileSteps.{counted, formed_refusal, header_refusal, body_refusal, file_refusal}
use Rattle.planfile_spec.proofs.Laws.File.{records-length, read_refusal}
use Rattle.planfile_spec.proofs.Laws.Examined.{header_read}
use Rattle.content.specs.Content.{Item, Content, item_of, content, letters_of}
use Rattle.content.specs.Clean.{form_for, mark_of, labels, entries, copy, copy_refusal}
use Rattle.content.proofs.Laws.Clean.{clean_trailer, clean-length, clean-form, clean-records, clean-letters, bare-entries}
use Rattle.content.proofs.Laws.Asked.{row_refusal, rows_refusal, copy_steps, copy-asks, each_row}
use Rattle.content.proofs.Laws.Fine.{letter, AllFine, zero_none, asked-no, asked_zero, and_both, items-fine, entries-fine, labels_short, labels_printable, rows_widen}

pub cells_same : (letters : List ℕ) (rs : List Record) → map (λ (i : Item). i.cell) (map (item_of letters) rs) ≡ cells_of rs
unfolding item_of cells_of
cells_same letters [] = refl
cells_same letters (r ∷ rs) = ap (λ (x : Table). bare r ∷ x) (cells_same letters rs)

pub mark-known : (form : Form) → T (marked (mark_of form))
unfolding mark_of marked
mark-known Old = tt
mark-known Wide = tt

size_bounds : (form : Form) (n : ℕ) → 1 ≤ n → (8 ≤ record_size form * n) × (record_size form * n ≤ wide_size * n)
size_bounds form n h = (omega (arith, (sizes form).0, record_inside (record_size form) 0 n h), records_short (record_size form) n (sizes form).1)

-- ---- Read accepts whatever the writer writes
module _ (rs : List Record) (letters : List ℕ) (al : ℕ) (e : (copy_steps rs letters al).number ≡ 0) where
  abbrev c : Content
  c = content rs letters al

  abbrev g : List ℕ
  g = copy rs letters al

  pub record Asked : Type 0 where
    pub count : (1 ≤ length rs) × (length rs ≤ most_cells)
    pub fine : AllFine 0 (map (item_of letters) rs)
    pub tree : (tree_refusal (cells_of rs)).number ≡ 0
    pub last : T (leb al most_allowance)

  pub answers : Asked
  unfolding copy_steps
  answers =
      let (a, r) = both-none (asked 4 (between 1 most_cells (length rs)) 0) _ e in
      let (b, s) = both-none (asked 5 (every letter letters) 0) _ r in
      let (d, u) = both-none (rows_refusal Wide (length letters) 0 rs) _ s in
      let (t, l) = both-none (tree_refusal (cells_of rs)) _ u in
      let k = asked_yes 3 (between 1 most_cells (length rs)) 0 a in
      record {
        count = (leb→le 1 (length rs) (and_left (leb 1 (length rs)) _ k), leb→le (length rs) most_cells (and_right (leb 1 (length rs)) _ k));
        fine = items-fine Wide letters 0 rs (asked_yes 4 (every letter letters) 0 b) d;
        tree = t;
        last = asked_yes 13 (leb al most_allowance) 0 l;
      }

  abbrev is : List Item
  is = map (item_of letters) rs

  items_are : c.items ≡ is
  unfolding content
  items_are = refl

  allowance_is : c.allowance ≡ al
  unfolding content
  allowance_is = refl

  count_of : length is ≡ length rs
  count_of = length-map rs (item_of letters)

  begin-is : (trailer_of g).begin ≡ length (labels is)
  begin-is = ap (λ (x : Trailer). x.begin) (clean_trailer c) ∙ rw items_are refl

  count-is : (trailer_of g).count ≡ length rs
  count-is = ap (λ (x : Trailer). x.count) (clean_trailer c) ∙ rw items_are count_of

  mark-is : (trailer_of g).mark ≡ mark_of (form_for is)
  mark-is = ap (λ (x : Trailer). x.mark) (clean_trailer c) ∙ rw items_are refl

  form-is : form g ≡ form_for is
  form-is = clean-form c ∙ rw items_are refl

  size_is : length g ≡ length (labels is) + record_size (form_for is) * length rs + trailer_size
  size_is = clean-length c ∙ rw (items_are, count_of) refl

  records_are : records_of g ≡ entries 0 is
  records_are = clean-records c ∙ rw items_are refl

  table_is : cells_of (records_of g) ≡ cells_of rs
  table_is = ap cells_of records_are ∙ bare-entries 0 is ∙ cells_same letters rs

  small : length (labels is) ≤ most_label * length rs
  small = let h = labels_short 0 is answers.fine in rw count_of at h

  -- the longest copy has 10,240 + 2,560 + 8 bytes
  pub copy_small : length (copy rs letters al) ≤ most_file
  copy_small = let b = size_bounds (form_for is) (length rs) answers.count.0 in omega (arith, size_is, small, b.1, answers.count.1)

  letters-here : take (trailer_of g).begin g ≡ labels is
  unfolding letters_of
  letters-here = clean-letters c ∙ rw items_are refl

  header_passed : (header_refusal g).number ≡ 0
  unfolding formed_refusal header_refusal
  header_passed =
      let (one, many) = answers.count in
      let b = size_bounds (form_for is) (length rs) one in
      let low : least_file ≤ length g = omega (arith, size_is, b.0) in
      let high : length g ≤ most_file = copy_small in
      let marked : T (marked (trailer_of g).mark) = rw mark-is (mark-known (form_for is)) in
      let full : T (counted (form g) (length g) (trailer_of g).begin (trailer_of g).count) =
      rw (form-is, begin-is, count-is, size_is)
      (and_both (between 1 most_cells (length rs)) _ (and_both (leb 1 (length rs)) _ (le→leb _ _ one) (le→leb _ _ many)) (eqb_refl (length (labels is) + record_size (form_for is) * length rs + trailer_size)))
      in
      let printable : T (every letter (take (trailer_of g).begin g)) = rw letters-here (labels_printable 0 is answers.fine) in
      zero_none _ _
      (zero_none _ _ (asked_zero 1 _ 0 (and_both (leb least_file (length g)) _ (le→leb _ _ low) (le→leb _ _ high)))
      (zero_none _ _ (asked_zero 2 _ 0 marked) (asked_zero 3 _ 0 full)))
      (asked_zero 4 _ 0 printable)

  records-passed : (rows_refusal (form g) (trailer_of g).begin 0 (records_of g)).number ≡ 0
  records-passed = rw (records_are, form-is, begin-is) (entries-fine (length (labels is)) is answers.fine (omega arith))

  body_passed : body_refusal g ≡ none
  unfolding body_refusal
  body_passed =
      let r : _ = each_row (form g) (trailer_of g).begin (entry g) 0 (trailer_of g).count in
      let q : (rows_refusal (form g) (trailer_of g).begin 0 (map (entry g) (from 0 (trailer_of g).count))).number ≡ 0 = unfold records_of in records-passed in
      let l : (trailer_of g).allowance ≡ al = ap (λ (x : Trailer). x.allowance) (clean_trailer c) ∙ allowance_is in
      rw (table_is, l)
      (first-none _ _ (ap (λ (x : Refusal). x.number) r ∙ q)
      ∙ first-none (tree_refusal (cells_of rs)) _ answers.tree
      ∙ asked-no 13 _ 0 answers.last)

  pub copy-accepted : file_refusal (copy rs letters al) ≡ none
  unfolding file_refusal
  copy-accepted = first-none (header_refusal g) (body_refusal g) header_passed ∙ body_passed

-- ---- what Read accepts the writer writes
module _ (f : List ℕ) (e : (file_refusal f).number ≡ 0) where
  letters-length : (trailer_of f).begin ≤ length f → length (letters_of f) ≡ (trailer_of f).begin
  unfolding letters_of
  letters-length h = length-take-le (trailer_of f).begin f h

  letters-asked : (asked 5 (every letter (take (trailer_of f).begin f)) 0).number ≡ 0 → (asked 5 (every letter (letters_of f)) 0).number ≡ 0
  unfolding letters_of
  letters-asked h = h

  each-asked : (at_each (λ c. row_refusal (form f) (trailer_of f).begin c (entry f c)) 0 (trailer_of f).count).number ≡ 0 → (rows_refusal (form f) (trailer_of f).begin 0 (records_of f)).number ≡ 0
  unfolding records_of
  each-asked h = ap (λ (x : Refusal). x.number) (sym (each_row (form f) (trailer_of f).begin (entry f) 0 (trailer_of f).count)) ∙ h

  pub file-written : (copy_steps (records_of f) (letters_of f) (trailer_of f).allowance).number ≡ 0
  unfolding copy_steps file_refusal header_refusal body_refusal
  file-written =
      let (header, body) = both-none (header_refusal f) (body_refusal f) e in
      let (records, rest) = both-none _ _ body in
      let h = header_read f header in
      let (formed, five) = both-none (formed_refusal f) _ header in
      let n = records-length f in
      let l : length (letters_of f) ≡ (trailer_of f).begin = letters-length (omega (arith, h.full.exact)) in
      let one : 1 ≤ (trailer_of f).count = h.full.some in
      let many : (trailer_of f).count ≤ most_cells = h.full.few in
      let each : (rows_refusal Wide (trailer_of f).begin 0 (records_of f)).number ≡ 0 = rows_widen (form f) (trailer_of f).begin 0 (records_of f) (each-asked records) in
      let p : (asked 5 (every letter (letters_of f)) 0).number ≡ 0 = letters-asked five in
      rw (n, l)
      (zero_none _ _ (asked_zero 3 _ 0 (and_both (leb 1 (trailer_of f).count) _ (le→leb _ _ one) (le→leb _ _ many)))
      (zero_none _ _ p
      (zero_none _ _ each rest)))

-- ---- in the words of the one sequence
module _ (rs : List Record) (letters : List ℕ) (al room : ℕ) where
  -- what the writer does not refuse: the output is long enough, and the steps pass
  pub copy_passed : (copy_refusal rs letters al room).number ≡ 0 → (most_file ≤ room) × ((copy_steps rs letters al).number ≡ 0)
  copy_passed z =
      let (a, b) = both-none (asked 1 (leb most_file room) 0) (copy_steps rs letters al) (ap (λ (x : Refusal). x.number) (sym (copy-asks rs letters al room)) ∙ z) in
      (leb→le most_file room (asked_yes 0 _ 0 a), b)

  pub copied_read : (copy_refusal rs letters al room).number ≡ 0 → (table : ℕ) → most_cells ≤ table → refusal read (file_given (copy rs letters al) (to_fill table ∷ []) nothing) ≡ none
  copied_read z table h =
      read_refusal (copy rs letters al) table ∙ first-none (asked 1 (leb most_cells table) 0) _ (asked_zero 0 _ 0 (le→leb most_cells table h)) ∙ copy-accepted rs letters al (copy_passed z).1

pub read-then-copy : (f : List ℕ) (table room : ℕ) → (refusal read (file_given f (to_fill table ∷ []) nothing)).number ≡ 0 → most_file ≤ room
    → (copy_refusal (records_of f) (letters_of f) (trailer_of f).allowance room).number ≡ 0
read-then-copy f table room z h =
    let (a, b) = both-none (asked 1 (leb most_cells table) 0) (file_refusal f) (ap (λ (x : Refusal). x.number) (sym (read_refusal f table)) ∙ z) in
    ap (λ (x : Refusal). x.number) (copy-asks (records_of f) (letters_of f) (trailer_of f).allowance room)
    ∙ zero_none (asked 1 (leb most_file room) 0) _ (asked_zero 0 _ 0 (le→leb most_file room h)) (file-written f b)
