-- Texts put one after another, and the parts of the file as the loops make them. Assumes nothing.
use Rattle.std.specs.Prelude.{◌≡◌, refl, List, [], ◌∷◌, ◌++◌, Bool, true, ◌&&◌, cond, ℕ, zero, suc, ◌+◌, ◌*◌, ◌≤◌, ◌<◌, T, eqb, leb, length, take, drop, get_or, set}
use Rattle.std.proofs.Common.{sym, ap, ◌∙◌, le_trans, add-one, arith, leb→le, length-append, length-drop, length-take-le}
use Rattle.std.proofs.Math.Bool.{false}
use Rattle.std.proofs.Math.Decide.{ℕ_discrete}
use Rattle.std.proofs.lemmas.List.Edits.{sets}
use Rattle.std.proofs.Math.Seq.{length-sets}
use Rattle.plan.specs.Limits.{most_cells, most_label, old_width}
use Rattle.plan.specs.Forms.{record_size}
use Rattle.plan.proofs.Laws.Form.{sizes, no-records, next_record, record_inside, records_short}
use Rattle.plan.proofs.Laws.Steps.{and_left, and_right}
use Rattle.plan.specs.declared.forms.Form.{Form}
use Rattle.plan.specs.declared.forms.Form.TheVariants.{Old, Wide}
use Rattle.content.specs.Clean.{record_bytes}
use Rattle.content.proofs.Laws.Clean.{record_length}
use Rattle.listing.specs.Put as listed
use Rattle.copying_records.specs.Parts.{Put, narrow_to, form_to, Holds, text_at, labels_to, sum_to, row_from, records_to, Texts, Rows}

sets_append : (s t l : List ℕ) (i : ℕ) → sets l i (s ++ t) ≡ sets (sets l i s) (i + length s) t
sets_append [] t l i = let e : i + 0 ≡ i = omega arith in rw e
sets_append (a ∷ s) t l i = let e : i + suc (length s) ≡ suc i + length s = omega arith in rw e (sets_append s t (set l i a) (suc i))

pub then : {a b c s t : List ℕ} {i j k : ℕ} → Put a i s b j → Put b j t c k → Put a i (s ++ t) c k
then {a} {b} {c} {s} {t} {i} {j} {k} p q =
    record {
      bytes = q.bytes ∙ rw (p.bytes, p.place) (sym (sets_append s t a i));
      place = rw (length-append s t) (omega (arith, p.place, q.place));
      as_long = q.as_long ∙ p.as_long;
    }

put-start : (a : List ℕ) (i : ℕ) → Put a i [] a i
put-start a i = record { bytes = refl; place = omega arith; as_long = refl }

-- what is put as in a listing
pub put-listed : {a b s : List ℕ} {i j : ℕ} → listed.Put a i s b j → Put a i s b j
put-listed {a} {b} {s} {i} p = record { bytes = p.bytes; place = p.place; as_long = ap length p.bytes ∙ length-sets a i s }

-- ---- the loop over the labels, after c cells
pub text-long : (ls ss letters : List ℕ) (c : ℕ) → get_or ss c 0 + get_or ls c 0 ≤ length letters → length (text_at ls ss letters c) ≡ get_or ls c 0
text-long ls ss letters c h = length-take-le (get_or ls c 0) (drop (get_or ss c 0) letters) (rw (length-drop (get_or ss c 0) letters) (omega arith))

labels-more : (ls ss letters : List ℕ) (c : ℕ) → labels_to ls ss letters (c + 1) ≡ labels_to ls ss letters c ++ text_at ls ss letters c
unfolding labels_to
labels-more ls ss letters c = rw add-one

labels-none : (ls ss letters : List ℕ) → labels_to ls ss letters 0 ≡ []
unfolding labels_to
labels-none ls ss letters = refl

pub record Laid (ls ss letters a b : List ℕ) (c at : ℕ) : Type 0 where
  pub put : Put a 0 (labels_to ls ss letters c) b at
  pub low : at ≤ most_label * c

pub laid_start : (ls ss letters a : List ℕ) → Laid ls ss letters a a 0 0
laid_start ls ss letters a = record { put = rw (labels-none ls ss letters) (put-start a 0); low = omega arith }

module _ (ls ss letters a b : List ℕ) (n c at : ℕ) (r : Texts ls ss n (length letters)) (h : c < n) (k : Laid ls ss letters a b c at) where
  -- the label's start and size, as the code has read them
  pub laid_room : most_label * 256 ≤ length a → (s l : ℕ) → s ≡ get_or ss c 0 → l ≡ get_or ls c 0 → (s + l ≤ length letters) × (at + l ≤ length b)
  laid_room m s l e f = rw (e, f) (r.within c h, omega (arith, r.short c h, r.few, k.low, k.put.as_long))

  pub laid_more : (d : List ℕ) (next s l : ℕ) → s ≡ get_or ss c 0 → l ≡ get_or ls c 0 → Put b at (take l (drop s letters)) d next → Laid ls ss letters a d (c + 1) next
  laid_more d next s l e f p =
      let q : Put b at (text_at ls ss letters c) d next = rw (e, f) at p in
      record {
        put = rw (labels-more ls ss letters c) (then k.put q);
        low = omega (arith, q.place, text-long ls ss letters c (r.within c h), r.short c h, k.low);
      }

pub laid_all : (ls ss letters a b : List ℕ) (n c at : ℕ) → Laid ls ss letters a b c at → c ≡ n → Put a 0 (labels_to ls ss letters n) b at
laid_all ls ss letters a b n c at k e = rw e at k.put

-- ---- the loop over the records
records-more : (form : Form) (ps ks ws ds qs ls : List ℕ) (c : ℕ)
    → records_to form ps ks ws ds qs ls (c + 1) ≡ records_to form ps ks ws ds qs ls c ++ record_bytes form (row_from ps ks ws ds qs ls c (sum_to ls c))
unfolding records_to
records-more form ps ks ws ds qs ls c = rw add-one

records-none : (form : Form) (ps ks ws ds qs ls : List ℕ) → records_to form ps ks ws ds qs ls 0 ≡ []
unfolding records_to
records-none form ps ks ws ds qs ls = refl

sum_more : (ls : List ℕ) (c : ℕ) → sum_to ls (c + 1) ≡ sum_to ls c + get_or ls c 0
unfolding sum_to
sum_more ls c = rw add-one

sum-none : (ls : List ℕ) → sum_to ls 0 ≡ 0
unfolding sum_to
sum-none ls = refl

size_small : (form : Form) (c : ℕ) → c < most_cells → record_size form * c + record_size form ≤ 10 * 256
size_small form c h = le_trans (record_inside (record_size form) c most_cells h) (records_short (record_size form) most_cells (sizes form).1)

pub record Rowed (form : Form) (ps ks ws ds qs ls a b : List ℕ) (i c at start : ℕ) : Type 0 where
  pub put : Put a i (records_to form ps ks ws ds qs ls c) b at
  pub place : at ≡ i + record_size form * c
  pub start_is : start ≡ sum_to ls c
  pub low : start ≤ most_label * c

pub rowed_start : (form : Form) (ps ks ws ds qs ls a : List ℕ) (i : ℕ) → Rowed form ps ks ws ds qs ls a a i 0 i 0
rowed_start form ps ks ws ds qs ls a i =
    record { put = rw (records-none form ps ks ws ds qs ls) (put-start a i); place = omega (arith, no-records (record_size form)); start_is = sym (sum-none ls); low = omega arith }

module _ (form : Form) (ps ks ws ds qs ls a b : List ℕ) (n i c at start : ℕ) (r : Rows form ws ls n) (h : c < n) (k : Rowed form ps ks ws ds qs ls a b i c at start) where
  pub rowed_room : i + 10 * 256 ≤ length a → Holds form (get_or ws c 0) × (start < 65536) × (at + record_size form ≤ length b)
  rowed_room l =
      let m : c < most_cells = omega (arith, r.few) in
      (r.held c h, omega (arith, r.few, k.low), omega (arith, size_small form c m, k.place, k.put.as_long))

  pub rowed_more : (d : List ℕ) (next on : ℕ) → Put b at (record_bytes form (row_from ps ks ws ds qs ls c start)) d next → on ≡ start + get_or ls c 0 → Rowed form ps ks ws ds qs ls a d i (c + 1) next on
  rowed_more d next on q e =
      let p : Put b at (record_bytes form (row_from ps ks ws ds qs ls c (sum_to ls c))) d next = rw k.start_is at q in
      record {
        put = rw (records-more form ps ks ws ds qs ls c) (then k.put p);
        place = omega (arith, q.place, record_length form (row_from ps ks ws ds qs ls c start), next_record (record_size form) c, k.place);
        start_is = rw (e, sum_more ls c) (ap (λ x. x + get_or ls c 0) k.start_is);
        low = omega (arith, r.short c h, k.low);
      }

pub rowed_all : (form : Form) (ps ks ws ds qs ls a b : List ℕ) (n i c at start : ℕ) → Rowed form ps ks ws ds qs ls a b i c at start → c ≡ n → Put a i (records_to form ps ks ws ds qs ls n) b at
rowed_all form ps ks ws ds qs ls a b n i c at start k e = rw e at k.put

-- ---- the loop that finds the form
pub narrow_start : (ws qs : List ℕ) → true ≡ narrow_to ws qs 0
unfolding narrow_to
narrow_start ws qs = refl

pub narrow-more : (ws qs : List ℕ) (c : ℕ) (b x : Bool) → b ≡ narrow_to ws qs c → x ≡ (leb (get_or ws c 0) old_width && eqb (get_or qs c 0) 0) → b && x ≡ narrow_to ws qs (c + 1)
unfolding narrow_to
narrow-more ws qs c b x e f = rw (e, f, add-one)

pub form-ends : (ws qs : List ℕ) (n c : ℕ) (b : Bool) (f : Form) → b ≡ narrow_to ws qs c → c ≡ n → f ≡ cond b Old Wide → f ≡ form_to ws qs n
unfolding form_to
form-ends ws qs n c b f e q h = h ∙ ap (λ (x : Bool). cond x Old Wide) (e ∙ ap (narrow_to ws qs) q)

-- the form holds every width
narrow-holds : (ws qs : List ℕ) (n : ℕ) → T (narrow_to ws qs n) → (c : ℕ) → c < n → get_or ws c 0 ≤ old_width
unfolding narrow_to
narrow-holds ws qs zero h c l = absurd (omega arith)
narrow-holds ws qs (suc n) h c l = go (ℕ_discrete c n) (narrow-holds ws qs n (and_left (narrow_to ws qs n) _ h) c)
  where
    go : Dec (c ≡ n) → (c < n → get_or ws c 0 ≤ old_width) → get_or ws c 0 ≤ old_width
    go (yes e) k = rw e (leb→le _ _ (and_left (leb (get_or ws n 0) old_width) _ (and_right (narrow_to ws qs n) _ h)))
    go (no e) k = k (omega arith)

pub form-holds : (ws qs : List ℕ) (n : ℕ) (c : ℕ) → c < n → Holds (form_to ws qs n) (get_or ws c 0)
unfolding form_to
form-holds ws qs n c l = go (narrow_to ws qs n) refl
  where
    go : (b : Bool) → narrow_to ws qs n ≡ b → Holds (cond b Old Wide) (get_or ws c 0)
    go true e = unfold Holds in narrow-holds ws qs n (rw e tt) c l
    go false e = unfold Holds in tt
