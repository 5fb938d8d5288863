-- What stands in a clean copy: its trailer, its records, its labels. Assumes nothing.
use Rattle.std.specs.Prelude.{◌≡◌, Bool, true, false, cond, ℕ, suc, ◌+◌, ◌-◌, ◌*◌, ◌/◌, ◌%◌, T, eqb, leb, take, drop}
use Rattle.std.proofs.Math.Path.{refl, sym, ap}
use Rattle.std.proofs.Common.{◌∙◌, div-add-mod', mul-suc, eqb→eq, get_or-append-add, drop_at}
use mathlib.Core.List.{List, [], ◌∷◌, ◌++◌, map}
use native.Mathlib.Omega.{arith}
use Rattle.std.proofs.Math.ListN.{length, get_or, length-append}
use Rattle.std.proofs.Math.Seq.{take-append_seam}
use Rattle.plan.specs.Limits.{old_width, trailer_size}
use Rattle.plan.specs.Forms.{form_of, record_size}
use Rattle.plan.proofs.Laws.Form.{no-records}
use Rattle.plan.specs.Lists.{from}
use Rattle.plan.specs.Plan.{Cell}
use Rattle.plan.specs.Records.{bare, cells_of}
use Rattle.plan.proofs.Laws.Steps.{and_left, and_right}
use Rattle.plan.specs.declared.Record.{Record}
use Rattle.plan.specs.declared.forms.Form.{Form}
use Rattle.plan.specs.declared.forms.Form.TheVariants.{Old, Wide}
use Rattle.planfile_spec.specs.declared.Trailer.{Trailer}
use Rattle.planfile_spec.specs.Fields.{pair, set_pair, number_at, set_number, set_record, set_trailer, parent_place, kind_place, width_place, depth_place, length_place, rank_place, start_place, begin_place, count_place, allowance_place, mark_place}
use Rattle.planfile_spec.specs.Format.{trailer_of, record_at, entry, records_of}
use Rattle.content.specs.Content.{Item, Content, text_of, item_of, content, letters_of, file_content}
use Rattle.content.specs.Clean.{two, narrow, all_narrow, form_for, mark_of, labels, record_of, entries, record_bytes, records_bytes, trailer_bytes, clean_end, clean}

pub append_assoc : (a b c : List ℕ) → (a ++ b) ++ c ≡ a ++ (b ++ c)
append_assoc [] b c = refl
append_assoc (x ∷ a) b c = ap (λ (r : List ℕ). x ∷ r) (append_assoc a b c)

pub append-nil : (l : List ℕ) → l ++ [] ≡ l
append-nil [] = refl
append-nil (x ∷ l) = ap (λ (r : List ℕ). x ∷ r) (append-nil l)

-- ---- a number of two bytes
whole_number : (n : ℕ) → n % 256 + 256 * (n / 256) ≡ n
whole_number n = omega (arith, div-add-mod' n 256)

-- ---- the bytes of a record, one by one
pub record_old : (r : Record) → record_bytes Old r ≡ two r.parent (r.kind ∷ r.width ∷ r.depth ∷ r.label_length ∷ two r.label_start [])
unfolding record_bytes record_size set_record set_number set_pair parent_place kind_place width_place depth_place length_place rank_place start_place
record_old r = refl

pub record_wide : (r : Record) → record_bytes Wide r ≡ two r.parent (r.kind ∷ r.depth ∷ two r.width (r.label_length ∷ r.rank ∷ two r.label_start []))
unfolding record_bytes record_size set_record set_number set_pair parent_place kind_place width_place depth_place length_place rank_place start_place
record_wide r = refl

pub trailer_long : (t : Trailer) → trailer_bytes t ≡ two t.begin (two t.count (two t.allowance (two t.mark [])))
unfolding trailer_bytes set_trailer set_number set_pair begin_place count_place allowance_place mark_place
trailer_long t = refl

pub record_length : (form : Form) (r : Record) → length (record_bytes form r) ≡ record_size form
unfolding record_size
record_length Old r = ap length (record_old r)
record_length Wide r = ap length (record_wide r)

-- ---- read back: of the old form, whose records have no rank, what has none
unfoldable pub Ranked : Form → Record → Type 0
Ranked Old r = r.rank ≡ 0
Ranked Wide r = T true

module _ (g pre l : List ℕ) (r : Record) (at : ℕ) (q : at ≡ length pre) where
  abbrev same : Record
  same =
      record { parent = r.parent; kind = r.kind; width = r.width; depth = r.depth; rank = r.rank; label_length = r.label_length; label_start = r.label_start }

  old_here : g ≡ pre ++ (record_bytes Old r ++ l) → r.rank ≡ 0 → record_at Old g at ≡ same
  unfolding record_at number_at pair parent_place kind_place width_place depth_place length_place rank_place start_place
  old_here e z =
      let w : g ≡ pre ++ (two r.parent (r.kind ∷ r.width ∷ r.depth ∷ r.label_length ∷ two r.label_start []) ++ l) = rw (record_old r) at e in
      let b : (k : ℕ) → get_or g (length pre + k) 0 ≡ get_or (two r.parent (r.kind ∷ r.width ∷ r.depth ∷ r.label_length ∷ two r.label_start []) ++ l) k 0 = λ k. rw w (get_or-append-add pre _ k 0) in
      let f : length pre + 0 + 1 ≡ length pre + 1 = omega arith in
      let h : length pre + 6 + 1 ≡ length pre + 7 = omega arith in
      rw (q, f, h, b 0, b 1, b 2, b 3, b 4, b 5, b 6, b 7, whole_number r.parent, whole_number r.label_start, z) refl

  wide-here : g ≡ pre ++ (record_bytes Wide r ++ l) → record_at Wide g at ≡ same
  unfolding record_at number_at pair parent_place kind_place width_place depth_place length_place rank_place start_place
  wide-here e =
      let w : g ≡ pre ++ (two r.parent (r.kind ∷ r.depth ∷ two r.width (r.label_length ∷ r.rank ∷ two r.label_start [])) ++ l) = rw (record_wide r) at e in
      let b : (k : ℕ) → get_or g (length pre + k) 0 ≡ get_or (two r.parent (r.kind ∷ r.depth ∷ two r.width (r.label_length ∷ r.rank ∷ two r.label_start [])) ++ l) k 0 = λ k. rw w (get_or-append-add pre _ k 0) in
      let f : length pre + 0 + 1 ≡ length pre + 1 = omega arith in
      let h : length pre + 4 + 1 ≡ length pre + 5 = omega arith in
      let i : length pre + 8 + 1 ≡ length pre + 9 = omega arith in
      rw (q, f, h, i, b 0, b 1, b 2, b 3, b 4, b 5, b 6, b 7, b 8, b 9, whole_number r.parent, whole_number r.width, whole_number r.label_start) refl

record_here : (form : Form) (g pre l : List ℕ) (r : Record) (at : ℕ) → at ≡ length pre → g ≡ pre ++ (record_bytes form r ++ l) → Ranked form r → record_at form g at ≡ r
unfolding Ranked
record_here Old g pre l r at q e z = old_here g pre l r at q e z
record_here Wide g pre l r at q e z = wide-here g pre l r at q e

unfoldable pub AllRanked : Form → List Record → Type 0
AllRanked form [] = T true
AllRanked form (r ∷ rs) = Ranked form r × AllRanked form rs

-- the records of a file that has them from a place on
entries-here : (form : Form) (g pre l : List ℕ) (rs : List Record) (begin k : ℕ) → g ≡ pre ++ (records_bytes form rs ++ l) → begin + record_size form * k ≡ length pre → AllRanked form rs
    → map (λ c. record_at form g (begin + record_size form * c)) (from k (length rs)) ≡ rs
unfolding records_bytes from AllRanked
entries-here form g pre l [] begin k e q z = refl
entries-here form g pre l (r ∷ rs) begin k e q z =
    let w : g ≡ pre ++ (record_bytes form r ++ (records_bytes form rs ++ l)) = e ∙ ap (λ (x : List ℕ). pre ++ x) (append_assoc (record_bytes form r) (records_bytes form rs) l) in
    let h : record_at form g (begin + record_size form * k) ≡ r = record_here form g pre (records_bytes form rs ++ l) r _ q w z.0 in
    let on : g ≡ (pre ++ record_bytes form r) ++ (records_bytes form rs ++ l) = w ∙ sym (append_assoc pre (record_bytes form r) (records_bytes form rs ++ l)) in
    let n : begin + record_size form * suc k ≡ length (pre ++ record_bytes form r) = omega (arith, q, mul-suc (record_size form) k, length-append pre (record_bytes form r), record_length form r) in
    cc (h, entries-here form g (pre ++ record_bytes form r) l rs begin (suc k) on n z.1)

-- ---- lengths
pub records_bytes-length : (form : Form) (rs : List Record) → length (records_bytes form rs) ≡ record_size form * length rs
unfolding records_bytes
records_bytes-length form [] = sym (no-records (record_size form))
records_bytes-length form (r ∷ rs) = length-append (record_bytes form r) (records_bytes form rs) ∙ rw (record_length form r, records_bytes-length form rs) (omega (arith, mul-suc (record_size form) (length rs)))

pub entries-length : (s : ℕ) (is : List Item) → length (entries s is) ≡ length is
unfolding entries
entries-length s [] = refl
entries-length s (i ∷ is) = ap suc (entries-length (s + length i.text) is)

-- ---- the form
pub mark-form : (form : Form) → form_of (mark_of form) ≡ form
unfolding mark_of form_of
mark-form Old = refl
mark-form Wide = refl

narrow-ranked : (s : ℕ) (is : List Item) → T (all_narrow is) → AllRanked Old (entries s is)
unfolding all_narrow narrow entries AllRanked Ranked record_of
narrow-ranked s [] h = tt
narrow-ranked s (i ∷ is) h =
    let n : T (narrow i) = and_left (narrow i) (all_narrow is) h in
    (eqb→eq i.cell.rank 0 (and_right (leb i.cell.width old_width) (eqb i.cell.rank 0) n), narrow-ranked (s + length i.text) is (and_right (narrow i) (all_narrow is) h))

wide-ranked : (rs : List Record) → AllRanked Wide rs
unfolding AllRanked Ranked
wide-ranked [] = tt
wide-ranked (r ∷ rs) = (tt, wide-ranked rs)

pub form-ranked : (s : ℕ) (is : List Item) → AllRanked (form_for is) (entries s is)
unfolding form_for
form-ranked s is = go (all_narrow is) refl
  where
    go : (b : Bool) → all_narrow is ≡ b → AllRanked (cond b Old Wide) (entries s is)
    go true e = narrow-ranked s is (rw e tt)
    go false e = wide-ranked (entries s is)

-- ---- the trailer
trailer_here : (g pre : List ℕ) (t : Trailer) → g ≡ pre ++ trailer_bytes t → ◌≡◌ {A = Trailer} (trailer_of g) (record { begin = t.begin; count = t.count; allowance = t.allowance; mark = t.mark })
unfolding trailer_of number_at pair begin_place count_place allowance_place mark_place
trailer_here g pre t e =
    let w : g ≡ pre ++ two t.begin (two t.count (two t.allowance (two t.mark []))) = rw (trailer_long t) at e in
    let s = two t.begin (two t.count (two t.allowance (two t.mark []))) in
    let b : (k : ℕ) → get_or g (length pre + k) 0 ≡ get_or s k 0 = λ k. rw w (get_or-append-add pre s k 0) in
    let q : length g - trailer_size ≡ length pre = rw (w, length-append pre s) (omega arith) in
    let f1 : length pre + 0 + 1 ≡ length pre + 1 = omega arith in
    let f3 : length pre + 2 + 1 ≡ length pre + 3 = omega arith in
    let f5 : length pre + 4 + 1 ≡ length pre + 5 = omega arith in
    let f7 : length pre + 6 + 1 ≡ length pre + 7 = omega arith in
    rw (q, f1, f3, f5, f7, b 0, b 1, b 2, b 3, b 4, b 5, b 6, b 7, whole_number t.begin, whole_number t.count, whole_number t.allowance, whole_number t.mark) refl

-- ---- the labels
-- a label taken out of bytes where it stands
items-here : (letters pre post : List ℕ) (is : List Item) (s : ℕ) → letters ≡ pre ++ (labels is ++ post) → s ≡ length pre → map (item_of letters) (entries s is) ≡ is
unfolding labels entries item_of text_of record_of bare
items-here letters pre post [] s e q = refl
items-here letters pre post (i ∷ is) s e q =
    let on : letters ≡ (pre ++ i.text) ++ (labels is ++ post) = e ∙ ap (λ (x : List ℕ). pre ++ x) (append_assoc i.text (labels is) post) ∙ sym (append_assoc pre i.text (labels is ++ post)) in
    let n : s + length i.text ≡ length (pre ++ i.text) = rw (length-append pre i.text) (omega arith) in
    let r = items-here letters (pre ++ i.text) post is (s + length i.text) on n in
    cc (this, r)
  where
    this : item_of letters (record_of i s) ≡ i
    this =
        let d : drop s letters ≡ i.text ++ (labels is ++ post) = rw e (drop_at pre _ s (sym q)) ∙ append_assoc i.text (labels is) post in
        ap (λ (x : List ℕ). record { cell = i.cell; text = x }) (ap (take (length i.text)) d ∙ take-append_seam i.text (labels is ++ post))

pub bare-entries : (s : ℕ) (is : List Item) → cells_of (entries s is) ≡ map (λ (i : Item). i.cell) is
unfolding entries cells_of record_of bare
bare-entries s [] = refl
bare-entries s (i ∷ is) = ap (λ (x : List Cell). i.cell ∷ x) (bare-entries (s + length i.text) is)

-- ---- the clean copy
module _ (c : Content) where
  abbrev g : List ℕ
  g = clean c

  abbrev form : Form
  form = form_for c.items

  abbrev rs : List Record
  rs = entries 0 c.items

  abbrev end : List ℕ
  end = trailer_bytes (clean_end c)

  pub clean_trailer : ◌≡◌ {A = Trailer} (trailer_of (clean c)) (record { begin = length (labels c.items); count = length c.items; allowance = c.allowance; mark = mark_of (form_for c.items) })
  unfolding clean clean_end
  clean_trailer = trailer_here g (labels c.items ++ records_bytes form rs) (clean_end c) (sym (append_assoc (labels c.items) (records_bytes form rs) end))

  pub clean-length : length (clean c) ≡ length (labels c.items) + record_size (form_for c.items) * length c.items + trailer_size
  unfolding clean
  clean-length =
      length-append (labels c.items) (records_bytes form rs ++ end)
      ∙ rw (length-append (records_bytes form rs) end, records_bytes-length form rs, entries-length 0 c.items, trailer_long (clean_end c)) (omega arith)

  pub clean-form : form_of (trailer_of (clean c)).mark ≡ form_for c.items
  clean-form = ap (λ (x : Trailer). form_of x.mark) clean_trailer ∙ mark-form form

  pub clean-records : records_of (clean c) ≡ entries 0 c.items
  unfolding records_of entry
  clean-records =
      let b : (trailer_of g).begin ≡ length (labels c.items) = ap (λ (x : Trailer). x.begin) clean_trailer in
      let n : (trailer_of g).count ≡ length rs = ap (λ (x : Trailer). x.count) clean_trailer ∙ sym (entries-length 0 c.items) in
      rw n (at (form_of (trailer_of g).mark) clean-form b)
    where
      at : (form' : Form) → form' ≡ form → (trailer_of g).begin ≡ length (labels c.items) → map (λ k. record_at form' g ((trailer_of g).begin + record_size form' * k)) (from 0 (length rs)) ≡ rs
      at form' e b = rw e (entries-here form g (labels c.items) end rs (trailer_of g).begin 0 (unfold clean in refl) (omega (arith, no-records (record_size form))) (form-ranked 0 c.items))

  pub clean-letters : letters_of (clean c) ≡ labels c.items
  unfolding letters_of
  clean-letters = rw clean_trailer (unfold clean in take-append_seam (labels c.items) _)

  -- the copy has the content that it was made of
  pub clean-content : file_content (clean c) ≡ c
  unfolding file_content content
  clean-content =
      let e : map (item_of (labels c.items)) (entries 0 c.items) ≡ c.items = items-here (labels c.items) [] [] c.items 0 (sym (append-nil (labels c.items))) refl in
      rw (clean-records, clean-letters, clean_trailer, e) refl
