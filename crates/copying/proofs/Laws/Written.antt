-- What the loops write is the clean copy; the questions put to columns are those of the records in them; the answer as the code comes to it. Assumes nothing.
use Rattle.std.specs.Prelude.{◌≡◌, Bool, true, false, ◌&&◌, Result, Ok, Err, IsErrAnd, ⊤, leb, take, drop}
use Rattle.std.proofs.Math.Path.{refl, ap}
use Rattle.std.proofs.Common.{sym, ◌∙◌}
use mathlib.Core.List.{List, [], ◌∷◌, ◌++◌, map}
use Rattle.std.proofs.Math.Bool.{cond}
use Prim.Native.Nat.{ℕ, zero, suc, ◌+◌, ◌*◌, ◌≤◌, ◌<◌}
use native.Mathlib.Omega.{arith}
use Rattle.std.proofs.Math.Dec.{leb→le}
use Rattle.std.proofs.Math.ListN.{length, get_or, length-append}
use Rattle.std.proofs.lemmas.List.Edits.{sets-eq}
use Rattle.std.proofs.Math.Seq.{take-length}
use Rattle.plan.specs.Limits.{between, most_cells, most_label, most_allowance, most_file, first_letter, last_letter}
use Rattle.plan.specs.Forms.{record_size}
use Rattle.plan.specs.Lists.{from}
use Rattle.plan.specs.Records.{bare, cells_of}
use Rattle.plan.specs.Columns.{table, table_of}
use Rattle.plan.proofs.Laws.Columns.{length_from}
use Rattle.plan.proofs.Laws.Form.{sizes, records_short}
use Rattle.plan.specs.Questions.{asked, at_each, every, answered, passed}
use Rattle.plan.specs.Steps.{tree_refusal}
use Rattle.plan.proofs.Laws.Questions.{both-none, asked_yes, each_none}
use Rattle.plan.proofs.Laws.Steps.{and_right}
use Rattle.plan.specs.declared.Record.{Record}
use Rattle.plan.specs.declared.Lettered.{Lettered}
use Rattle.plan.specs.declared.Refusal.{Refusal}
use Rattle.plan.specs.declared.forms.Form.{Form}
use Rattle.plan.specs.declared.forms.Form.TheVariants.{Old, Wide}
use Rattle.planfile_spec.specs.FileSteps.{records_at}
use Rattle.records.specs.Apart.{row_at, records_in}
use Rattle.records.proofs.Laws.Apart.{records-length}
use Rattle.content.specs.Content.{Item, text_of, item_of, content}
use Rattle.content.specs.Clean.{narrow, all_narrow, form_for, mark_of, labels, record_of, entries, record_bytes, records_bytes, clean_end, clean, copy, copy_refusal, two}
use Rattle.content.proofs.Laws.Clean.{append_assoc, append-nil, trailer_long, records_bytes-length, entries-length}
use Rattle.content.proofs.Laws.Asked.{rows_refusal, copy_steps, copy-asks, each_row}
use Rattle.content.proofs.Laws.Fine.{row-sound}
use Rattle.content.proofs.Laws.Promised.{copy_passed, copy_small}
use Rattle.plan.proofs.Laws.Answered.{answered_none, answered_some, refused_by, answers_err, passes}
use Rattle.copying.specs.Copied.{copied_of, output_after, Copies}
use Rattle.copying_records.specs.Parts.{Put, narrow_to, form_to, text_at, labels_to, sum_to, row_from, records_to, Rows}
use Rattle.copying.specs.Steps.{Ready, lettered_steps}
use Rattle.copying_records.proofs.Laws.Put.{then, text-long, form-holds}

-- ---- lists that grow at the end
from_last : (k d : ℕ) → from k (suc d) ≡ from k d ++ ((k + d) ∷ [])
unfolding from
from_last k zero = let e : k + 0 ≡ k = omega arith in rw e
from_last k (suc d) = let e : k + suc d ≡ suc k + d = omega arith in rw e (ap (λ (x : List ℕ). k ∷ x) (from_last (suc k) d))

map-append : {A B : Type 0} (f : A → B) (a b : List A) → map f (a ++ b) ≡ map f a ++ map f b
map-append f [] b = refl
map-append {A} {B} f (x ∷ a) b = ap (λ (r : List B). f x ∷ r) (map-append f a b)

pub map_last : {B : Type 0} (f : ℕ → B) (n : ℕ) → map f (from 0 (suc n)) ≡ map f (from 0 n) ++ (f n ∷ [])
map_last f n = ap (map f) (from_last 0 n) ∙ map-append f (from 0 n) ((0 + n) ∷ []) ∙ (let e : 0 + n ≡ n = omega arith in rw e)

pub map-map : {A B : Type 0} (f : A → B) (g : ℕ → A) (l : List ℕ) → map f (map g l) ≡ map (λ c. f (g c)) l
map-map f g [] = refl
map-map {A} {B} f g (c ∷ l) = ap (λ (r : List B). f (g c) ∷ r) (map-map f g l)

pub labels_append : (a b : List Item) → labels (a ++ b) ≡ labels a ++ labels b
unfolding labels
labels_append [] b = refl
labels_append (i ∷ a) b = ap (λ (x : List ℕ). i.text ++ x) (labels_append a b) ∙ sym (append_assoc i.text (labels a) (labels b))

pub entries_last : (s : ℕ) (a : List Item) (i : Item) → entries s (a ++ (i ∷ [])) ≡ entries s a ++ (record_of i (s + length (labels a)) ∷ [])
unfolding entries labels
entries_last s [] i = let e : s + 0 ≡ s = omega arith in rw e
entries_last s (j ∷ a) i =
    let e : s + length (j.text ++ labels a) ≡ s + length j.text + length (labels a) = omega (arith, length-append j.text (labels a)) in
    rw e (ap (λ (x : List Record). record_of j s ∷ x) (entries_last (s + length j.text) a i))

bytes_last : (form : Form) (a : List Record) (r : Record) → records_bytes form (a ++ (r ∷ [])) ≡ records_bytes form a ++ record_bytes form r
unfolding records_bytes
bytes_last form [] r = append-nil (record_bytes form r)
bytes_last form (q ∷ a) r = ap (λ (x : List ℕ). record_bytes form q ++ x) (bytes_last form a r) ∙ sym (append_assoc (record_bytes form q) (records_bytes form a) (record_bytes form r))

and_last : (a b : Bool) → (a && (b && true)) ≡ (a && b)
and_last true true = refl
and_last true false = refl
and_last false b = refl

and_assoc : (a b c : Bool) → (a && (b && c)) ≡ ((a && b) && c)
and_assoc true b c = refl
and_assoc false b c = refl

narrow-append : (a : List Item) (i : Item) → all_narrow (a ++ (i ∷ [])) ≡ (all_narrow a && narrow i)
unfolding all_narrow
narrow-append [] i = and_last true (narrow i)
narrow-append (j ∷ a) i = ap (λ (x : Bool). narrow j && x) (narrow-append a i) ∙ and_assoc (narrow j) (all_narrow a) (narrow i)

-- ---- what the loops write is the copy
module _ (l : Lettered) (letters : List ℕ) where
  abbrev ps : List ℕ
  ps = l.columns.parent

  abbrev ks : List ℕ
  ks = l.columns.kind

  abbrev ws : List ℕ
  ws = l.columns.width

  abbrev ds : List ℕ
  ds = l.columns.depth

  abbrev qs : List ℕ
  qs = l.columns.rank

  abbrev ls : List ℕ
  ls = l.label_length

  abbrev ss : List ℕ
  ss = l.label_start

  abbrev n : ℕ
  n = l.columns.count

  abbrev item : ℕ → Item
  item c = item_of letters (row_at l c)

  items_of : map (item_of letters) (records_in l) ≡ map item (from 0 n)
  unfolding records_in
  items_of = map-map (item_of letters) (row_at l) (from 0 n)

  labels_are : (c : ℕ) → labels (map item (from 0 c)) ≡ labels_to ls ss letters c
  unfolding labels_to item_of text_of labels from
  labels_are zero = refl
  labels_are (suc c) =
      ap labels (map_last item c) ∙ labels_append (map item (from 0 c)) (item c ∷ [])
      ∙ ap (λ (x : List ℕ). x ++ labels (item c ∷ [])) (labels_are c) ∙ ap (λ (x : List ℕ). labels_to ls ss letters c ++ x) (append-nil (text_at ls ss letters c))

  narrow_are : (c : ℕ) → all_narrow (map item (from 0 c)) ≡ narrow_to ws qs c
  unfolding narrow_to all_narrow from narrow item_of bare
  narrow_are zero = refl
  narrow_are (suc c) = ap all_narrow (map_last item c) ∙ narrow-append (map item (from 0 c)) (item c) ∙ ap (λ (x : Bool). x && narrow (item c)) (narrow_are c)

  module _ (h : Ready l (length letters)) where
    sum-long : (c : ℕ) → c ≤ n → length (labels_to ls ss letters c) ≡ sum_to ls c
    unfolding labels_to sum_to
    sum-long zero k = refl
    sum-long (suc c) k =
        length-append (labels_to ls ss letters c) (text_at ls ss letters c)
        ∙ (let a = sum-long c (omega arith) in let b = text-long ls ss letters c (h.within c (omega arith)) in rw (a, b) refl)

    sum_low : (c : ℕ) → c ≤ n → sum_to ls c ≤ most_label * c
    unfolding sum_to
    sum_low zero k = omega arith
    sum_low (suc c) k = omega (arith, sum_low c (omega arith), h.short c (omega arith))

    records_are : (form : Form) (c : ℕ) → c ≤ n → records_bytes form (entries 0 (map item (from 0 c))) ≡ records_to form ps ks ws ds qs ls c
    unfolding records_to item_of text_of record_of bare
    records_are form zero k = unfold from entries records_bytes in refl
    records_are form (suc c) k =
        let e : 0 + length (labels (map item (from 0 c))) ≡ sum_to ls c = omega (arith, ap length (labels_are c), sum-long c (omega arith)) in
        let t : length (text_at ls ss letters c) ≡ get_or ls c 0 = text-long ls ss letters c (h.within c (omega arith)) in
        let q : record_of (item c) (0 + length (labels (map item (from 0 c)))) ≡ row_from ps ks ws ds qs ls c (sum_to ls c) = rw (e, t) refl in
        ap (λ (x : List Item). records_bytes form (entries 0 x)) (map_last item c)
        ∙ ap (records_bytes form) (entries_last 0 (map item (from 0 c)) (item c))
        ∙ bytes_last form (entries 0 (map item (from 0 c))) _
        ∙ cc (q, records_are form c (omega arith))

    abbrev form : Form
    form = form_to ws qs n

    form-is : form_for (map item (from 0 n)) ≡ form
    unfolding form_for form_to
    form-is = ap (λ (x : Bool). cond x Old Wide) (narrow_are n)

    abbrev end : ℕ → List ℕ
    end al = two (length (labels_to ls ss letters n)) (two n (two al (two (mark_of form) [])))

    copy_is : (al : ℕ) → copy (records_in l) letters al ≡ labels_to ls ss letters n ++ (records_to form ps ks ws ds qs ls n ++ end al)
    unfolding clean clean_end content
    copy_is al =
        let k : length (map item (from 0 n)) ≡ n = length_from item 0 n in
        rw (items_of, k, labels_are n, form-is, records_are form n (omega arith)) (ap (λ (x : List ℕ). labels_to ls ss letters n ++ (records_to form ps ks ws ds qs ls n ++ x)) (trailer_long _))

    rows_hold : Rows form ws ls n
    rows_hold = record { few = h.few; held = λ c k. form-holds ws qs n c k; short = h.short }

    -- the form as the code has found it
    pub rows_ready : (f : Form) → f ≡ form_to ws qs n → Rows f ws ls n
    rows_ready f e = rw e rows_hold

    -- three parts put one after the other
    pub parts-put : (f : Form) → f ≡ form_to ws qs n → (al : ℕ) (a b d e : List ℕ) (i j k m : ℕ) → Put a 0 (labels_to ls ss letters n) b i → Put b i (records_to f ps ks ws ds qs ls n) d j → m ≡ mark_of f
        → Put d j (two i (two n (two al (two m [])))) e k → Put a 0 (copy (records_in l) letters al) e k
    parts-put f w al a b d e i j k m p q g s =
        let z : i ≡ length (labels_to ls ss letters n) = omega (arith, p.place) in
        let v : m ≡ mark_of form = g ∙ ap mark_of w in
        let u : Put b i (records_to form ps ks ws ds qs ls n) d j = rw w at q in
        rw (copy_is al) (then p (then u (rw (v, z) at s)))

    labels_low : length (labels_to ls ss letters n) ≤ most_label * n
    labels_low = let a = sum-long n (omega arith) in let b = sum_low n (omega arith) in omega (arith, a, b)

    pub parts-room : (a b : List ℕ) (i : ℕ) → Put a 0 (labels_to ls ss letters n) b i → most_file ≤ length a → (i < 65536) × (i + 10 * 256 ≤ length b)
    parts-room a b i p k = let m = labels_low in (omega (arith, p.place, h.few), omega (arith, p.place, p.as_long, h.few))

    records-long : length (records_to (form_to ws qs n) ps ks ws ds qs ls n) ≤ 10 * n
    records-long =
        let a = records_bytes-length form (entries 0 (map item (from 0 n))) in
        let b : length (entries 0 (map item (from 0 n))) ≡ n = entries-count in
        let e : length (records_to form ps ks ws ds qs ls n) ≡ record_size form * n = ap length (sym (records_are form n (omega arith))) ∙ a ∙ ap (λ (x : ℕ). record_size form * x) b in
        omega (arith, e, records_short (record_size form) n (sizes form).1)
      where
        entries-count : length (entries 0 (map item (from 0 n))) ≡ n
        entries-count = entries-length 0 (map item (from 0 n)) ∙ length_from item 0 n

    pub trailer_room : (f : Form) → f ≡ form_to ws qs n → (a b d : List ℕ) (i j : ℕ) → Put a 0 (labels_to ls ss letters n) b i → Put b i (records_to f ps ks ws ds qs ls n) d j → most_file ≤ length a → j + 8 ≤ length d
    trailer_room f w a b d i j p q k =
        let m = labels_low in
        let r : length (records_to f ps ks ws ds qs ls n) ≤ 10 * n = rw w records-long in
        omega (arith, p.place, p.as_long, q.place, q.as_long, h.few)

  -- ---- the questions
  table_is : cells_of (records_in l) ≡ table_of l.columns
  unfolding cells_of records_in table bare
  table_is = map-map bare (row_at l) (from 0 n)

  each-is : at_each (records_at Wide (length letters) ps ks ws ds ls ss) 0 n ≡ rows_refusal Wide (length letters) 0 (records_in l)
  unfolding records_in
  each-is = each_row Wide (length letters) (row_at l) 0 n

  pub steps_are : (al room : ℕ) → lettered_steps l letters al room ≡ copy_refusal (records_in l) letters al room
  unfolding lettered_steps copy_steps
  steps_are al room = rw (copy-asks (records_in l) letters al room, take-length letters, table_is, each-is, records-length l) refl

  -- what they establish
  pub steps_ready : (al room : ℕ) → (lettered_steps l letters al room).number ≡ 0 → Ready l (length letters) × (al ≤ most_allowance) × (most_file ≤ room)
  unfolding lettered_steps
  steps_ready al room e =
      let (o, r) = both-none (asked 1 (leb most_file room) 0) _ e in
      let (a, x) = both-none (asked 4 (between 1 most_cells n) 0) _ r in
      let (b, y) = both-none (asked 5 (every (between first_letter last_letter) (take (length letters) letters)) 0) _ x in
      let (c, z) = both-none (at_each (records_at Wide (length letters) ps ks ws ds ls ss) 0 n) _ y in
      let (d, q) = both-none (tree_refusal (table_of l.columns)) _ z in
      let one : (i : ℕ) → i < n → (get_or ls i 0 ≤ most_label) × (get_or ss i 0 + get_or ls i 0 ≤ length letters) =
      λ i h. (let s = row-sound Wide (length letters) i (get_or ps i 0) (get_or ks i 0) (get_or ws i 0) (get_or ds i 0) (get_or ls i 0) (get_or ss i 0) (each_none (records_at Wide (length letters) ps ks ws ds ls ss) n c i h) in (s.short, s.within))
      in (
        record { few = leb→le n most_cells (and_right (leb 1 n) _ (asked_yes 3 (between 1 most_cells n) 0 a)); short = λ i h. (one i h).0; within = λ i h. (one i h).1 },
        leb→le al most_allowance (asked_yes 13 (leb al most_allowance) 0 q),
        leb→le most_file room (asked_yes 0 (leb most_file room) 0 o),
      )

-- ---- the answer, as the code comes to it
-- a text put at the beginning
put_front : (a s b : List ℕ) (k : ℕ) → Put a 0 s b k → length s ≤ length a → (k ≡ length s) × (b ≡ s ++ drop (length s) a)
put_front a s b k p l =
    let z : 0 + length s ≡ length s = omega arith in
    let e : 0 + length s ≤ length a = omega arith in
    (omega (arith, p.place), p.bytes ∙ sets-eq s a 0 e ∙ ap (λ x. s ++ drop x a) z)

module _ (l : Lettered) (letters : List ℕ) (al : ℕ) (out : List ℕ) where
  abbrev steps : Refusal
  steps = lettered_steps l letters al (length out)

  abbrev copied : List ℕ
  copied = copy (records_in l) letters al

  pub copy-refused : (e : Refusal) (y : Result ℕ Refusal) → Err e ≡ passed steps → IsErrAnd y (λ d. d ≡ e) → Copies (records_in l) letters al out out y
  unfolding copied_of output_after
  copy-refused e y h p =
      let a = answers_err (length copied) steps e y h p in
      let q : y ≡ Err steps = a ∙ answered_some steps (length copied) (refused_by steps tt e h).1 in
      record { answers = a ∙ ap (λ r. answered r (length copied)) (steps_are l letters al (length out)); output = rw q refl }

  module _ (u : ⊤) (h : Ok u ≡ passed steps) where
    pub copy_ready : Ready l (length letters) × (al ≤ most_allowance) × (most_file ≤ length out)
    copy_ready = steps_ready l letters al (length out) (passes steps u h)

    pub copy_written : (after : List ℕ) (k : ℕ) → Put out 0 copied after k → Copies (records_in l) letters al out after (Ok k)
    unfolding copied_of output_after
    copy_written after k p =
        let q : (copy_refusal (records_in l) letters al (length out)).number ≡ 0 = ap (λ (x : Refusal). x.number) (sym (steps_are l letters al (length out))) ∙ passes steps u h in
        let c = copy_passed (records_in l) letters al (length out) q in
        let m : length copied ≤ length out = omega (arith, copy_small (records_in l) letters al c.1, c.0) in
        let f = put_front out copied after k p m in
        record { answers = rw f.0 (sym (answered_none _ (length copied) q)); output = rw f.0 f.1 }
