-- From what each function has to what it promises: for the code. Nothing that a reader must believe stands here. Assumes nothing.
use Rattle.std.specs.Prelude.{◌≡◌, Result, Ok, Err, IsErrAnd, ⊤, Bool, ◌&&◌, not, T, leb}
use Rattle.std.proofs.Math.Path.{refl, sym, ap}
use Rattle.std.proofs.Common.{◌∙◌, leb→le}
use Rattle.std.proofs.Math.Bool.{true, false, cond}
use mathlib.Core.List.{List, [], ◌∷◌, ◌++◌, map, append-nil}
use Prim.Native.Nat.{ℕ, zero, suc, ◌+◌, ◌-◌, ◌*◌, ◌≤◌}
use native.Mathlib.Omega.{arith}
use Rattle.std.proofs.Math.ListN.{length, take, drop, replicate}
use Rattle.std.proofs.lemmas.List.Edits.{sets-eq}
use Rattle.std.proofs.Math.Seq.{take-append_seam, drop-append_seam}
use borrow.Author.Tests.{le-leb}
use Rattle.whole.proofs.Laws.Says.{both, says_le}
use Rattle.plan.specs.Limits.{between, most_cells, most_file, least_file, lines_size, trailer_size}
use Rattle.plan.specs.Forms.{form_of, record_size}
use Rattle.plan.specs.Lists.{from, keep}
use Rattle.plan.specs.Questions.{asked, or_else, answered, passed}
use Rattle.plan.proofs.Laws.Questions.{first_some, asked_yes}
use Rattle.plan.proofs.Laws.Kept.{none_first}
use Rattle.plan.specs.declared.Record.{Record}
use Rattle.plan.specs.declared.Refusal.{Refusal}
use Rattle.plan.specs.declared.forms.Form.{Form}
use Rattle.planfile_spec.specs.Read.{answer_of}
use Rattle.planfile_spec.specs.declared.PlanFile.{PlanFile}
use Rattle.planfile_spec.specs.declared.Trailer.{Trailer}
use Rattle.planfile_spec.specs.Format.{trailer_of, form, record_at, entry}
use Rattle.planfile_spec.specs.Reading.{reading_of}
use Rattle.planfile_spec.specs.FileSteps.{formed_refusal, file_refusal}
use Rattle.planfile_spec.proofs.Laws.File as file
use Rattle.planfile_spec.proofs.Laws.Examined.{Full}
use Rattle.listing.specs.Printed.{Bytes, lines_joined}
use Rattle.listing.proofs.Laws.Line.{joined-append}
use Rattle.listing.specs.Put.{Put}
use Rattle.listing.proofs.Laws.Put.{drop-zeros}
use Rattle.mending_boxes.specs.Boxes.{changed}
use Rattle.mending_boxes.specs.Raised.{mend_records}
use Rattle.mending_lines.specs.Lines.{alteration, alteration_line}
use Rattle.mending.specs.Mended.{would_get, looked_at, mended, altered_cells, altered}
use Rattle.mending.specs.Mending.{mend_given, mend_refusal, lines_of, mended_of, file_after, lines_after, file_size, lines_length, Mends}
use Rattle.mending_lines.specs.Steps.{alteration_text, alterations_text}
use Rattle.mending.specs.declared.Mended.{Mended}
use Rattle.plan.proofs.Laws.Answered.{answered_none, answered_some, refused_by, not_refused, answers_err, passes}
use Rattle.planfile_spec.proofs.Laws.Answer.{read_answer, err_passes}
use Rattle.mending_boxes.proofs.Laws.Bytes.{mends_length}
use Rattle.mending.proofs.Laws.Mended.{would_get-is, framed, refused-framed, looked_all, full, mend_unframed, formed_stops}

-- ---- a text put at the beginning
pub put_whole : {a b : List ℕ} (s : List ℕ) {n : ℕ} → Put a 0 s b n → length s ≤ length a → b ≡ s ++ drop (length s) a
put_whole {a} {b} s {n} p h =
    let z : 0 + length s ≡ length s = omega arith in
    p.bytes ∙ sets-eq s a 0 (rw z h) ∙ ap (λ (k : ℕ). s ++ drop k a) z

-- ---- lines
-- the lines cell by cell are the lines of the cells altered
keep_last : (p : ℕ → Bool) (k d : ℕ) → keep p (from k (suc d)) ≡ keep p (from k d) ++ cond (p (k + d)) ((k + d) ∷ []) []
unfolding keep from
keep_last p k zero = let e : k + 0 ≡ k = omega arith in rw e (go (p k))
  where
    go : (b : Bool) → cond b (k ∷ []) [] ≡ [] ++ cond b (k ∷ []) []
    go true = refl
    go false = refl
keep_last p k (suc d) =
    let e : k + suc d ≡ suc k + d = omega arith in
    rw e (go (p k) (keep_last p (suc k) d))
  where
    go : (b : Bool) → keep p (from (suc k) (suc d)) ≡ keep p (from (suc k) d) ++ cond (p (suc k + d)) ((suc k + d) ∷ []) []
        → cond b (k ∷ keep p (from (suc k) (suc d))) (keep p (from (suc k) (suc d))) ≡ cond b (k ∷ keep p (from (suc k) d)) (keep p (from (suc k) d)) ++ cond (p (suc k + d)) ((suc k + d) ∷ []) []
    go true q = ap (λ (l : List ℕ). k ∷ l) q
    go false q = q

map-append : (g : ℕ → Bytes) (xs ys : List ℕ) → map g (xs ++ ys) ≡ map g xs ++ map g ys
map-append g [] ys = refl
map-append g (x ∷ xs) ys = ap (λ (l : List Bytes). g x ∷ l) (map-append g xs ys)

module _ (e : ℕ → Record) where
  abbrev line_at : ℕ → Bytes
  line_at c = alteration_line (alteration c (e c))

  lines-cells : (n : ℕ) → lines_joined (map line_at (keep (λ c. changed (e c)) (from 0 n))) ≡ alterations_text e n
  unfolding alterations_text lines_joined keep from
  lines-cells zero = refl
  lines-cells (suc n) =
      let z : 0 + n ≡ n = omega arith in
      let k : keep (λ c. changed (e c)) (from 0 (suc n)) ≡ keep (λ c. changed (e c)) (from 0 n) ++ cond (changed (e n)) (n ∷ []) [] = rw z at (keep_last (λ c. changed (e c)) 0 n) in
      ap (λ (l : List ℕ). lines_joined (map line_at l)) k
      ∙ ap lines_joined (map-append line_at (keep (λ c. changed (e c)) (from 0 n)) (cond (changed (e n)) (n ∷ []) []))
      ∙ joined-append (map line_at (keep (λ c. changed (e c)) (from 0 n))) (map line_at (cond (changed (e n)) (n ∷ []) []))
      ∙ rw (lines-cells n) (ap (λ (t : Bytes). alterations_text e n ++ t) (last (changed (e n)) refl))
    where
      last : (b : Bool) → changed (e n) ≡ b → lines_joined (map line_at (cond b (n ∷ []) [])) ≡ alteration_text n (e n)
      last true q = unfold alteration_text lines_joined in rw q (append-nil (line_at n))
      last false q = unfold alteration_text lines_joined in rw q refl

map-map : (g : ℕ → Bytes) (xs : List ℕ) (e : ℕ → Record) → ((c : ℕ) → g c ≡ alteration_line (alteration c (e c))) → map alteration_line (map (λ c. alteration c (e c)) xs) ≡ map g xs
map-map g [] e h = refl
map-map g (x ∷ xs) e h = rw (h x) (ap (λ (l : List Bytes). alteration_line (alteration x (e x)) ∷ l) (map-map g xs e h))

pub lines_are : (f : List ℕ) → lines_of f ≡ alterations_text (entry f) (looked_at f)
unfolding lines_of altered altered_cells
lines_are f = ap lines_joined (map-map (line_at (entry f)) (keep (λ c. changed (entry f c)) (from 0 (looked_at f))) (entry f) (λ c. refl)) ∙ lines-cells (entry f) (looked_at f)

-- ---- a file that 2 to 4 do not refuse
module _ (f : List ℕ) (z : between 2 4 (would_get f).number ≡ false) where
  pub has_frame : framed f ≡ true
  has_frame = go (framed f) (sym (refused-framed f) ∙ z)
    where
      go : (b : Bool) → not b ≡ false → b ≡ true
      go true q = refl
      go false q = sym q

  pub size_fits : length f ≤ most_file
  size_fits =
      let t : T (framed f) = rw has_frame tt in
      leb→le (length f) most_file (second (leb least_file (length f)) (leb (length f) most_file) _ t)
    where
      second : (a b c : Bool) → T ((a && b) && c) → T b
      second true true c h = tt
      second true false c h = h
      second false b c h = absurd h

  frame : Full (form f) (length f) (trailer_of f).begin (trailer_of f).count
  frame = full f has_frame

  pub trailer_there : trailer_size ≤ length f
  trailer_there = omega (arith, frame.exact)

  pub mended-length : length (mended f) ≡ length f
  unfolding mended
  mended-length = mends_length (form f) (trailer_of f).begin (entry f) f (looked_at f)

  module _ {t : Trailer} {fm : Form} (q : t ≡ trailer_of f) (m : fm ≡ form_of t.mark) where
    pub records_there : (t.count ≤ most_cells) × (t.begin + record_size fm * t.count ≤ length f)
    records_there = rw (m, q) (frame.few, omega (arith, frame.exact))

    -- mended in a copy, zeros after it
    pub copy-mended : {o e : List ℕ} → o ≡ f ++ drop (length f) (replicate most_file 0)
        → e ≡ mend_records fm t.begin (λ c. record_at fm f (t.begin + record_size fm * c)) (take (length f) o) t.count
        → e ++ drop (length f) o ≡ mended f ++ replicate (most_file - length f) 0
    unfolding mended entry
    copy-mended {o} {e} p u =
        let a : take (length f) o ≡ f = rw p (take-append_seam f _) in
        let b : drop (length f) o ≡ replicate (most_file - length f) 0 = rw p (drop-append_seam f _) ∙ drop-zeros (length f) most_file in
        let v : e ≡ mend_records (form f) (trailer_of f).begin (λ c. record_at (form f) f ((trailer_of f).begin + record_size (form f) * c)) f (trailer_of f).count = rw (m, q, a) at u in
        rw (v, b, looked_all f has_frame) refl

    -- the lines
    pub lines-whole : {a b : List ℕ} {k : ℕ} → Put a 0 (alterations_text (λ c. record_at fm f (t.begin + record_size fm * c)) t.count) b k → Put a 0 (lines_of f) b k
    unfolding entry
    lines-whole {a} {b} {k} p =
        let w : Put a 0 (alterations_text (λ c. record_at (form f) f ((trailer_of f).begin + record_size (form f) * c)) (trailer_of f).count) b k = rw (m, q) at p in
        rw (lines_are f, looked_all f has_frame) w

  pub copy-taken : {o : List ℕ} → o ≡ mended f ++ replicate (most_file - length f) 0 → take (length f) o ≡ mended f
  copy-taken {o} p = let a : take (length (mended f)) (mended f ++ replicate {A = ℕ} (most_file - length f) 0) ≡ mended f = take-append_seam (mended f) _ in rw p (rw mended-length at a)

-- ---- the answer
module _ (f out lines : List ℕ) where
  abbrev why : Refusal
  why = mend_refusal f (length out) (length lines)

  abbrev long : Refusal
  long = asked 1 (leb most_file (length out) && leb lines_size (length lines)) 0

  why-is : why ≡ or_else long (file_refusal (mended f))
  unfolding mend_given
  why-is = file.mend_refusal (mended f) (length out) (length lines)

  -- a refusal handed on, which is that of the call
  refused-is : (r e : Refusal) (y : Result Mended Refusal) → Err e ≡ passed r → IsErrAnd y (λ d. d ≡ e) → (¬ (r.number ≡ 0) → r ≡ why) → Mends f out out lines lines y
  unfolding mended_of file_after lines_after file_size lines_length
  refused-is r e y h p same =
      let n = (refused_by r tt e h).1 in
      let m : Mended = record { file = length (mended f); lines = length (lines_of f) } in
      let a : y ≡ answered r m = answers_err m r e y h p in
      let q : y ≡ Err r = a ∙ answered_some r m n in
      record { answers = a ∙ ap (λ (x : Refusal). answered x m) (same n); bytes = rw q refl; told = rw q refl; suffices = rw q (omega arith, omega arith) }

  -- an output is too short
  pub refused_short : (e : Refusal) (y : Result Mended Refusal) → Err e ≡ passed long → IsErrAnd y (λ d. d ≡ e) → Mends f out out lines lines y
  refused_short e y h p = refused-is long e y h p (λ n. sym (why-is ∙ first_some long (file_refusal (mended f)) n))

  pub long_enough : (u : ⊤) → Ok u ≡ passed long → (most_file ≤ length out) × (lines_size ≤ length lines)
  long_enough u h = (both (says_le most_file (length out)) (says_le lines_size (length lines))).read (asked_yes 0 _ 0 (passes long u h))

  module _ (a : most_file ≤ length out) (b : lines_size ≤ length lines) where
    why-read : why ≡ would_get (mended f)
    unfolding asked
    why-read = why-is ∙ rw (le-leb most_file (length out) a, le-leb lines_size (length lines) b) (none_first (file_refusal (mended f))) ∙ sym (would_get-is (mended f))

    -- the mended file is refused
    pub refused-mended : (e : Refusal) (y : Result Mended Refusal) → Err e ≡ answer_of (reading_of (mended f) most_cells) → IsErrAnd y (λ d. d ≡ e) → Mends f out out lines lines y
    refused-mended e y h p = refused-is (would_get (mended f)) e y (err_passes (would_get (mended f)) _ e (h ∙ read_answer (mended f) most_cells)) p (λ n. sym why-read)

    -- the file itself, by 2 to 4
    pub refused_early : (e : Refusal) (y : Result Mended Refusal) → Err e ≡ passed (formed_refusal f) → IsErrAnd y (λ d. d ≡ e) → Mends f out out lines lines y
    refused_early e y h p =
        refused-is (formed_refusal f) e y h p (λ n.
        let (u, s) = formed_stops f n in
        s ∙ ap would_get (sym (mend_unframed f u).0) ∙ sym why-read)

    -- it is accepted
    pub written : between 2 4 (would_get f).number ≡ false → (p : PlanFile) → Ok p ≡ answer_of (reading_of (mended f) most_cells)
        → {o' l' : List ℕ} {k : ℕ} → o' ≡ mended f ++ drop (length (mended f)) out → Put lines 0 (lines_of f) l' k → k ≤ lines_size
        → Mends f out o' lines l' (Ok (record { file = length f; lines = k }))
    unfolding mended_of file_after lines_after file_size lines_length
    written z p e {o'} {l'} {k} u v s =
        let m = mended-length f z in
        let q : k ≡ length (lines_of f) = omega (arith, v.place) in
        let w : why.number ≡ 0 = ap (λ (r : Refusal). r.number) why-read ∙ not_refused (would_get (mended f)) _ p (e ∙ read_answer (mended f) most_cells) in
        record {
          answers = rw (m, q) (sym (answered_none why _ w));
          bytes = rw m at u;
          told = rw q (put_whole (lines_of f) v (omega arith));
          suffices = (size_fits f z, s);
        }
