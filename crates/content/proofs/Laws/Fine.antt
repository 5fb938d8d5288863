-- The questions 5 to 10 of a table with label bytes, as facts of its items; and of the records of a clean copy. Assumes nothing.
use Rattle.std.specs.Prelude.{◌≡◌, refl, List, [], ◌∷◌, ◌++◌, map, Bool, ◌&&◌, cond, ℕ, zero, suc, ◌+◌, ◌*◌, ◌≤◌, leb, eqb, length, take, drop}
use Rattle.std.proofs.Common.{ap, ◌∙◌, arith, leb→le, le→leb, length-append, length-drop, length-take-le}
use Rattle.std.proofs.Math.Bool.{true, false}
use Rattle.std.proofs.Math.Dec.{T}
use Rattle.plan.specs.Limits.{between, most_label, most_width, old_width, first_letter, last_letter}
use Rattle.plan.specs.Forms.{widest}
use Rattle.plan.specs.Kinds.{known, bordered}
use Rattle.plan.specs.Records.{bare}
use Rattle.plan.specs.Questions.{lower, sized, asked, or_else, every, none}
use Rattle.plan.specs.Steps.{cell_refusal}
use Rattle.plan.proofs.Laws.Questions.{first-none, both-none, asked_yes}
use Rattle.plan.proofs.Laws.Steps.{Passed, cell-passed, and_left, and_right, sized-wide, sized-deep, sized-within}
use Rattle.plan.specs.declared.Record.{Record}
use Rattle.plan.specs.declared.Refusal.{Refusal}
use Rattle.plan.specs.declared.forms.Form.{Form}
use Rattle.plan.specs.declared.forms.Form.TheVariants.{Old, Wide}
use Rattle.planfile_spec.specs.FileSteps.{inside, record_refusal}
use Rattle.content.specs.Content.{Item, text_of, item_of}
use Rattle.content.specs.Clean.{narrow, all_narrow, form_for, labels, record_of, entries}
use Rattle.content.proofs.Laws.Asked.{row_refusal, rows_refusal}

abbrev pub letter : ℕ → Bool
letter = between first_letter last_letter

-- ---- refusals of number 0
pub zero_none : (a b : Refusal) → a.number ≡ 0 → b.number ≡ 0 → (or_else a b).number ≡ 0
zero_none a b p q = ap (λ (x : Refusal). x.number) (first-none a b p) ∙ q

pub asked-no : (k : ℕ) (b : Bool) (c : ℕ) → T b → asked (suc k) b c ≡ none
unfolding asked
asked-no k true c h = refl
asked-no k false c h = absurd h

pub asked_zero : (k : ℕ) (b : Bool) (c : ℕ) → T b → (asked (suc k) b c).number ≡ 0
asked_zero k b c h = ap (λ (x : Refusal). x.number) (asked-no k b c h)

pub and_both : (a b : Bool) → T a → T b → T (a && b)
and_both true b p q = q
and_both false b p q = p

-- ---- every byte of a list, of its parts, of two lists
module _ (test : ℕ → Bool) where
  pub every-head : (v : ℕ) (vs : List ℕ) → T (every test (v ∷ vs)) → T (test v) × T (every test vs)
  unfolding every
  every-head v vs h = go (test v) h
    where
      go : (b : Bool) → T (cond b (every test vs) false) → T b × T (every test vs)
      go true k = (tt, k)
      go false k = absurd k

  every-cons : (v : ℕ) (vs : List ℕ) → T (test v) → T (every test vs) → T (every test (v ∷ vs))
  unfolding every
  every-cons v vs h k = go (test v) h
    where
      go : (b : Bool) → T b → T (cond b (every test vs) false)
      go true q = k
      go false q = absurd q

  every-nil : T (every test [])
  unfolding every
  every-nil = tt

  every_take : (n : ℕ) (l : List ℕ) → T (every test l) → T (every test (take n l))
  every_take zero l h = every-nil
  every_take (suc n) [] h = h
  every_take (suc n) (v ∷ vs) h = let (a, b) = every-head v vs h in every-cons v (take n vs) a (every_take n vs b)

  every_drop : (n : ℕ) (l : List ℕ) → T (every test l) → T (every test (drop n l))
  every_drop zero l h = h
  every_drop (suc n) [] h = h
  every_drop (suc n) (v ∷ vs) h = every_drop n vs (every-head v vs h).1

  pub every_append : (a b : List ℕ) → T (every test a) → T (every test b) → T (every test (a ++ b))
  every_append [] b p q = q
  every_append (v ∷ a) b p q = let (x, y) = every-head v a p in every-cons v (a ++ b) x (every_append a b y q)

-- ---- a cell, of a width of at most m
pub cell_zero : (m c p k w d : ℕ) → Passed m c p k w d → (cell_refusal m c p k w d).number ≡ 0
unfolding cell_refusal
cell_zero m c p k w d h =
    zero_none (asked 6 (lower c p) c) _ (asked_zero 5 _ c h.is_lower) (zero_none (asked 7 (known k) c) _ (asked_zero 6 _ c h.is_known) (asked_zero 7 (sized m w d) c h.is_sized))

sized-narrow : (m k w d : ℕ) → T (sized m w d) → w ≤ k → T (sized k w d)
unfolding sized
sized-narrow m k w d h l =
    let (a, b) = sized-wide m w d h in
    let (x, y) = sized-deep m w d h in
    and_both (between 1 k w) _ (and_both (leb 1 w) _ (le→leb 1 w a) (le→leb w k l)) (and_both (leb 1 d) _ (le→leb 1 d x) (le→leb d _ y))

-- ---- one item
pub record Fine (c : ℕ) (i : Item) : Type 0 where
  pub cell_fine : Passed most_width c i.cell.parent i.cell.kind i.cell.width i.cell.depth
  pub short : length i.text ≤ most_label
  pub fitting : T (bordered i.cell.kind (length i.text) i.cell.width)
  pub printable : T (every letter i.text)

abbrev pub AllFine : ℕ → List Item → Type 0
AllFine c [] = T true
AllFine c (i ∷ is) = Fine c i × AllFine (suc c) is

text-length : (letters : List ℕ) (r : Record) → r.label_start + r.label_length ≤ length letters → length (text_of letters r) ≡ r.label_length
unfolding text_of
text-length letters r h = length-take-le r.label_length (drop r.label_start letters) (rw (length-drop r.label_start letters) (omega arith))

-- what questions 6 to 10 establish at a record, of either form
pub record Sound (form : Form) (room c p k w d l s : ℕ) : Type 0 where
  pub cell : Passed (widest form) c p k w d
  pub short : l ≤ most_label
  pub within : s + l ≤ room
  pub fitting : T (bordered k l w)

pub row-sound : (form : Form) (room c p k w d l s : ℕ) → (record_refusal form room c p k w d l s).number ≡ 0 → Sound form room c p k w d l s
unfolding record_refusal
row-sound form room c p k w d l s e =
    let (a, b) = both-none (cell_refusal (widest form) c p k w d) _ e in
    let (x, y) = both-none (asked 9 (inside room l s) c) _ b in
    let h = asked_yes 8 (inside room l s) c x in
    record {
      cell = cell-passed (widest form) c p k w d a;
      short = leb→le l most_label (and_left (leb l most_label) _ h);
      within = leb→le (s + l) room (and_right (leb l most_label) _ h);
      fitting = asked_yes 9 (bordered k l w) c y;
    }

passed-wide : (form : Form) (c p k w d : ℕ) → Passed (widest form) c p k w d → Passed most_width c p k w d
unfolding widest
passed-wide Old c p k w d h = record { is_lower = h.is_lower; is_known = h.is_known; is_sized = sized-within old_width most_width w d (omega arith) h.is_sized }
passed-wide Wide c p k w d h = h

item-fine : (form : Form) (letters : List ℕ) (c : ℕ) (r : Record) → T (every letter letters) → (row_refusal form (length letters) c r).number ≡ 0 → Fine c (item_of letters r)
unfolding item_of bare
item-fine form letters c r p e =
    let h = row-sound form (length letters) c r.parent r.kind r.width r.depth r.label_length r.label_start e in
    let n = text-length letters r h.within in
    let s : r.label_length ≤ most_label = h.short in
    record {
      cell_fine = passed-wide form c r.parent r.kind r.width r.depth h.cell;
      short = rw n s;
      fitting = rw n h.fitting;
      printable = unfold text_of in every_take letter r.label_length _ (every_drop letter r.label_start letters p);
    }

-- what questions 5 to 10 establish
pub items-fine : (form : Form) (letters : List ℕ) (c : ℕ) (rs : List Record) → T (every letter letters) → (rows_refusal form (length letters) c rs).number ≡ 0 → AllFine c (map (item_of letters) rs)
unfolding rows_refusal
items-fine form letters c [] p e = tt
items-fine form letters c (r ∷ rs) p e =
    let (a, b) = both-none (row_refusal form (length letters) c r) _ e in
    (item-fine form letters c r p a, items-fine form letters (suc c) rs p b)

-- records that pass in a form pass in the wide one
row_widen : (form : Form) (room c p k w d l s : ℕ) → (record_refusal form room c p k w d l s).number ≡ 0 → (record_refusal Wide room c p k w d l s).number ≡ 0
unfolding record_refusal
row_widen form room c p k w d l s e =
    let (a, b) = both-none (cell_refusal (widest form) c p k w d) _ e in
    let q : Passed (widest Wide) c p k w d = unfold widest in passed-wide form c p k w d (cell-passed (widest form) c p k w d a) in
    zero_none (cell_refusal (widest Wide) c p k w d) _ (cell_zero (widest Wide) c p k w d q) b

pub rows_widen : (form : Form) (room c : ℕ) (rs : List Record) → (rows_refusal form room c rs).number ≡ 0 → (rows_refusal Wide room c rs).number ≡ 0
unfolding rows_refusal
rows_widen form room c [] e = refl
rows_widen form room c (r ∷ rs) e =
    let (a, b) = both-none (row_refusal form room c r) _ e in
    zero_none (row_refusal Wide room c r) _ (row_widen form room c _ _ _ _ _ _ a) (rows_widen form room (suc c) rs b)

-- ---- and what makes them pass: in the form that the items take
unfoldable pub Taken : Form → Item → Type 0
Taken Old i = i.cell.width ≤ old_width
Taken Wide i = T true

unfoldable pub AllTaken : Form → List Item → Type 0
AllTaken form [] = T true
AllTaken form (i ∷ is) = Taken form i × AllTaken form is

narrow-taken : (is : List Item) → T (all_narrow is) → AllTaken Old is
unfolding all_narrow narrow AllTaken Taken
narrow-taken [] h = tt
narrow-taken (i ∷ is) h =
    let n = and_left (leb i.cell.width old_width && eqb i.cell.rank 0) _ h in
    (leb→le i.cell.width old_width (and_left (leb i.cell.width old_width) _ n), narrow-taken is (and_right (leb i.cell.width old_width && eqb i.cell.rank 0) _ h))

wide-taken : (is : List Item) → AllTaken Wide is
unfolding AllTaken Taken
wide-taken [] = tt
wide-taken (i ∷ is) = (tt, wide-taken is)

pub form-taken : (is : List Item) → AllTaken (form_for is) is
unfolding form_for
form-taken is = go (all_narrow is) refl
  where
    go : (b : Bool) → all_narrow is ≡ b → AllTaken (cond b Old Wide) is
    go true e = narrow-taken is (rw e tt)
    go false e = wide-taken is

passed_in : (form : Form) (c : ℕ) (i : Item) → Fine c i → Taken form i → Passed (widest form) c i.cell.parent i.cell.kind i.cell.width i.cell.depth
unfolding widest Taken
passed_in Old c i f t =
    record { is_lower = f.cell_fine.is_lower; is_known = f.cell_fine.is_known; is_sized = sized-narrow most_width old_width i.cell.width i.cell.depth f.cell_fine.is_sized t }
passed_in Wide c i f t = f.cell_fine

record_fine : (form : Form) (room c s : ℕ) (i : Item) → Fine c i → Taken form i → s + length i.text ≤ room → (row_refusal form room c (record_of i s)).number ≡ 0
unfolding record_refusal record_of
record_fine form room c s i f t h =
    zero_none (cell_refusal (widest form) c i.cell.parent i.cell.kind i.cell.width i.cell.depth) _ (cell_zero (widest form) c _ _ _ _ (passed_in form c i f t))
    (zero_none (asked 9 (inside room (length i.text) s) c) _
    (asked_zero 8 _ c (and_both (leb (length i.text) most_label) _ (le→leb _ _ f.short) (le→leb _ _ h)))
    (asked_zero 9 _ c f.fitting))

taken_fine : (form : Form) (room c s : ℕ) (is : List Item) → AllFine c is → AllTaken form is → s + length (labels is) ≤ room → (rows_refusal form room c (entries s is)).number ≡ 0
unfolding rows_refusal entries labels AllTaken
taken_fine form room c s [] f t h = refl
taken_fine form room c s (i ∷ is) f t h =
    let n = length-append i.text (labels is) in
    zero_none (row_refusal form room c (record_of i s)) _ (record_fine form room c s i f.0 t.0 (omega arith))
    (taken_fine form room (suc c) (s + length i.text) is f.1 t.1 (omega arith))

pub entries-fine : (room : ℕ) (is : List Item) → AllFine 0 is → length (labels is) ≤ room → (rows_refusal (form_for is) room 0 (entries 0 is)).number ≡ 0
entries-fine room is f h = taken_fine (form_for is) room 0 0 is f (form-taken is) (omega arith)

pub labels_short : (c : ℕ) (is : List Item) → AllFine c is → length (labels is) ≤ most_label * length is
unfolding labels
labels_short c [] f = omega arith
labels_short c (i ∷ is) f = omega (arith, length-append i.text (labels is), labels_short (suc c) is f.1, f.0.short)

pub labels_printable : (c : ℕ) (is : List Item) → AllFine c is → T (every letter (labels is))
unfolding labels every
labels_printable c [] f = tt
labels_printable c (i ∷ is) f = every_append letter i.text (labels is) f.0.printable (labels_printable (suc c) is f.1)
