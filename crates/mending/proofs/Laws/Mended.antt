-- What is promised of a mended file: proofs of proofs/Promised.antt. Assumes nothing.
use Rattle.std.specs.Prelude.{◌≡◌, List, [], ◌∷◌, Bool, ◌&&◌, not, cond, eqb}
use Rattle.std.proofs.Math.Path.{refl}
use Rattle.std.proofs.Common.{sym, ap, ◌∙◌, eqb→eq}
use Rattle.std.proofs.Math.Bool.{true, false}
use Prim.Native.Nat.{ℕ, zero, suc, ◌+◌, ◌-◌, ◌*◌, ◌≤◌, ◌<◌}
use native.Mathlib.Omega.{arith}
use Rattle.std.proofs.Math.Decide.{ℕ_discrete}
use Rattle.std.proofs.Math.Dec.{T}
use Rattle.std.proofs.Math.ListN.{length, get_or}
use Rattle.std.proofs.lemmas.List.{length-map}
use Rattle.whole.proofs.Laws.Says.{both, says_le, says_eq, is_true, holds, itself}
use Rattle.plan.specs.Limits.{between, least_file, most_file, most_cells, trailer_size}
use Rattle.plan.specs.Forms.{marked, record_size}
use Rattle.plan.proofs.Laws.Form.{record_inside}
use Rattle.plan.specs.Lists.{from, keep, mem}
use Rattle.plan.proofs.Laws.Lists.{keep-read, keep_show, from-read, from_show}
use Rattle.plan.specs.Questions.{asked, or_else, at_each}
use Rattle.plan.proofs.Laws.Questions.{both-none, each_none, first-none, first_some}
use Rattle.plan.proofs.Laws.Kept.{none_first}
use Rattle.plan.specs.Steps.{cell_refusal, children_refusal, levels_refusal, rows_refusal, tree_refusal}
use Rattle.plan.specs.declared.Record.{Record}
use Rattle.plan.specs.declared.Refusal.{Refusal}
use Rattle.planfile_spec.specs.declared.Trailer.{Trailer}
use Rattle.planfile_spec.specs.Fields.{pair, number_at, begin_place, count_place, allowance_place, mark_place}
use Rattle.planfile_spec.specs.Format.{trailer_of, form, place, record_at, entry}
use Rattle.planfile_spec.specs.FileSteps.{counted, record_refusal, entry_refusal, formed_refusal, header_refusal, body_refusal, file_refusal}
use Rattle.planfile_spec.proofs.Laws.File.{read_refusal}
use Rattle.planfile_spec.proofs.Laws.Examined.{Full, full-read}
use Rattle.mending_boxes.specs.Boxes.{changed}
use Rattle.mending_boxes.specs.Raised.{mend_records}
use Rattle.mending_lines.specs.Lines.{alteration}
use Rattle.mending.specs.Mended.{would_get, looked_at, mended, altered_cells, altered, OnlyBoxes, differs, altered_by}
use Rattle.mending_boxes.proofs.Laws.Boxes.{Sound, sound_unchanged, passed-sound, mended_record, mended-sound}
use Rattle.mending_boxes.proofs.Laws.Bytes.{after, record_boxed, mends_length, mends_off, mends_sound, mends_read}

-- ---- questions 2 to 4
-- what Read says of a file is what 2 to 14 say of it
pub would_get-is : (f : List ℕ) → would_get f ≡ file_refusal f
unfolding asked
would_get-is f = read_refusal f most_cells ∙ none_first (file_refusal f)

-- the three tests
abbrev pub framed : List ℕ → Bool
framed f =
    between least_file most_file (length f) && (marked (trailer_of f).mark && counted (form f) (length f) (trailer_of f).begin (trailer_of f).count)

-- a refusal by none of them
abbrev Late : Refusal → Type 0
Late r = between 2 4 r.number ≡ false

late_asked : (n : ℕ) (b : Bool) (c : ℕ) → between 2 4 n ≡ false → Late (asked n b c)
unfolding asked
late_asked n true c h = refl
late_asked n false c h = h

late_else : (a b : Refusal) → Late a → Late b → Late (or_else a b)
late_else a b p q = go (ℕ_discrete a.number 0)
  where
    go : Dec (a.number ≡ 0) → Late (or_else a b)
    go (yes z) = rw (first-none a b z) q
    go (no z) = rw (first_some a b z) p

late-each : (f : ℕ → Refusal) (k d : ℕ) → ((c : ℕ) → Late (f c)) → Late (at_each f k d)
unfolding at_each
late-each f k zero h = refl
late-each f k (suc d) h = late_else (f k) (at_each f (suc k) d) (h k) (late-each f (suc k) d h)

body_late : (f : List ℕ) → Late (body_refusal f)
unfolding body_refusal record_refusal cell_refusal tree_refusal children_refusal levels_refusal rows_refusal
body_late f =
    late_else _ _
    (late-each (entry_refusal f) 0 (trailer_of f).count (λ c. late_else _ _ (late_else _ _ (late_asked 6 _ c refl) (late_else _ _ (late_asked 7 _ c refl) (late_asked 8 _ c refl))) (late_else _ _ (late_asked 9 _ c refl) (late_asked 10 _ c refl))))
    (late_else _ _
    (late_else _ _ (late-each _ 0 _ (λ c. late_asked 11 _ c refl)) (late_else _ _ (late-each _ 0 _ (λ c. late_asked 12 _ c refl)) (late-each _ 0 _ (λ c. late_asked 13 _ c refl))))
    (late_asked 14 _ 0 refl))

in_turn : (a b c : Bool) (d e : Refusal) → Late (or_else d e)
    → between 2 4 (or_else (or_else (or_else (asked 2 a 0) (or_else (asked 3 b 0) (asked 4 c 0))) d) e).number ≡ not (a && (b && c))
unfolding asked or_else
in_turn false b c d e h = refl
in_turn true false c d e h = refl
in_turn true true false d e h = refl
in_turn true true true d e h = h

-- refused by 2 to 4: one of the three says no
pub refused-framed : (f : List ℕ) → between 2 4 (would_get f).number ≡ not (framed f)
unfolding file_refusal formed_refusal header_refusal
refused-framed f =
    ap (λ (r : Refusal). between 2 4 r.number) (would_get-is f)
    ∙ in_turn (between least_file most_file (length f)) (marked (trailer_of f).mark) (counted (form f) (length f) (trailer_of f).begin (trailer_of f).count) _ (body_refusal f) (late_else _ _ (late_asked 5 _ 0 refl) (body_late f))

pub unframed : (f : List ℕ) → between 2 4 (would_get f).number ≡ true → framed f ≡ false
unframed f e = go (framed f) (sym (refused-framed f) ∙ e)
  where
    go : (b : Bool) → not b ≡ true → b ≡ false
    go true q = sym q
    go false q = refl

-- the three questions as code puts them
formed_no : (a b c : Bool) → ¬ ((or_else (asked 2 a 0) (or_else (asked 3 b 0) (asked 4 c 0))).number ≡ 0) → (a && (b && c)) ≡ false
unfolding asked or_else
formed_no false b c n = refl
formed_no true false c n = refl
formed_no true true false n = refl
formed_no true true true n = absurd (n refl)

pub formed_stops : (f : List ℕ) → ¬ ((formed_refusal f).number ≡ 0) → (framed f ≡ false) × (formed_refusal f ≡ would_get f)
unfolding file_refusal header_refusal
formed_stops f n =
    let e : header_refusal f ≡ formed_refusal f = first_some (formed_refusal f) _ n in
    let k : file_refusal f ≡ formed_refusal f = first_some (header_refusal f) (body_refusal f) (λ q. n (ap (λ (r : Refusal). r.number) (sym e) ∙ q)) ∙ e in
    (unfold formed_refusal in formed_no _ _ _ n, sym (would_get-is f ∙ k))

pub formed_on : (f : List ℕ) → (formed_refusal f).number ≡ 0 → between 2 4 (would_get f).number ≡ false
unfolding file_refusal header_refusal
formed_on f z =
    let a : Late (header_refusal f) = ap (λ (r : Refusal). between 2 4 r.number) (first-none (formed_refusal f) _ z) ∙ late_asked 5 _ 0 refl in
    ap (λ (r : Refusal). between 2 4 r.number) (would_get-is f) ∙ late_else _ _ a (body_late f)

-- ---- the cells looked at
pub looked_all : (f : List ℕ) → framed f ≡ true → looked_at f ≡ (trailer_of f).count
unfolding looked_at
looked_all f e = rw (refused-framed f, e) refl

pub looked_none : (f : List ℕ) → framed f ≡ false → looked_at f ≡ 0
unfolding looked_at
looked_none f e = rw (refused-framed f, e) refl

pub full : (f : List ℕ) → framed f ≡ true → Full (form f) (length f) (trailer_of f).begin (trailer_of f).count
full f e =
    let t : T (framed f) = rw e tt in
    let (a, r) = (both (itself (between least_file most_file (length f))) (itself (marked (trailer_of f).mark && counted (form f) (length f) (trailer_of f).begin (trailer_of f).count))).read t in
    let (b, c) = (both (itself (marked (trailer_of f).mark)) (itself (counted (form f) (length f) (trailer_of f).begin (trailer_of f).count))).read r in
    full-read (form f) (length f) (trailer_of f).begin (trailer_of f).count (asked 4 true 0) (asked-same _ c) (unfold asked in refl)
  where
    asked-same : (b : Bool) → T b → asked 4 true 0 ≡ asked 4 b 0
    asked-same true h = refl
    asked-same false h = absurd h

-- a cell that is looked at
pub record Seen (f : List ℕ) (c : ℕ) : Type 0 where
  pub frame : framed f ≡ true
  pub is : c < (trailer_of f).count

pub seen : (f : List ℕ) (c : ℕ) → c < looked_at f → Seen f c
seen f c l = go (framed f) refl
  where
    go : (b : Bool) → framed f ≡ b → Seen f c
    go true e = record { frame = e; is = omega (arith, looked_all f e) }
    go false e = absurd (omega (arith, looked_none f e))

-- its record stands in the file
inside : (f : List ℕ) (c : ℕ) → Seen f c → place f c + record_size (form f) ≤ length f
inside f c s = omega (arith, (full f s.frame).exact, record_inside (record_size (form f)) c (trailer_of f).count s.is)

-- ---- an accepted file: 2 to 4 and every record pass
pub record Accepted (f : List ℕ) : Type 0 where
  pub frame : framed f ≡ true
  pub at_record : (c : ℕ) → c < (trailer_of f).count → Sound (entry f c)

pub accepted : (f : List ℕ) → (file_refusal f).number ≡ 0 → Accepted f
unfolding file_refusal body_refusal
accepted f e =
    let (header, body) = both-none (header_refusal f) (body_refusal f) e in
    let (records, rest) = both-none _ _ body in
    record {
      frame = go (framed f) refl;
      at_record = λ c l. passed-sound (form f) (trailer_of f).begin c (entry f c) (each_none (entry_refusal f) (trailer_of f).count records c l);
    }
  where
    go : (b : Bool) → framed f ≡ b → framed f ≡ true
    go true q = q
    go false q = absurd (clash (would_get f) (ap (λ (r : Refusal). r.number) (would_get-is f) ∙ e) (refused-framed f ∙ ap not q))
      where
        clash : (r : Refusal) → r.number ≡ 0 → between 2 4 r.number ≡ true → ⊥
        clash r z t = let h = holds (both (says_le 2 r.number) (says_le r.number 4)) t in omega (arith, h.0)

-- ---- mend-only: no byte but those of widths and depths
pub mend-only : (f : List ℕ) → OnlyBoxes f (mended f)
unfolding mended
mend-only f =
    record {
      as_long = mends_length (form f) (trailer_of f).begin (entry f) f (looked_at f);
      elsewhere = λ i h. mends_off (form f) (trailer_of f).begin (entry f) f (looked_at f) i (λ c l. h c (seen f c l).is);
    }

-- a file refused by 2 to 4
pub mend_unframed : (f : List ℕ) → framed f ≡ false → (mended f ≡ f) × (altered f ≡ [])
unfolding mended mend_records altered altered_cells keep from
mend_unframed f e = (rw (looked_none f e) refl, rw (looked_none f e) refl)

keep-nothing : (p : ℕ → Bool) (k d : ℕ) → ((c : ℕ) → c < k + d → p c ≡ false) → keep p (from k d) ≡ []
unfolding keep from
keep-nothing p k zero h = refl
keep-nothing p k (suc d) h = rw (h k (omega arith), keep-nothing p (suc k) d (λ c l. h c (omega arith))) refl

-- where no record that is looked at needs mending
module _ (f : List ℕ) (h : (c : ℕ) → c < looked_at f → Sound (entry f c)) where
  pub same-mended : mended f ≡ f
  unfolding mended
  same-mended = mends_sound (form f) (trailer_of f).begin (entry f) f (looked_at f) h

  pub no_lines : altered f ≡ []
  unfolding altered altered_cells
  no_lines = rw (keep-nothing (λ c. changed (entry f c)) 0 (looked_at f) (λ c l. sound_unchanged (entry f c) (h c (omega arith)))) refl

-- ---- mend_keeps: an accepted file
module _ (f : List ℕ) (e : (file_refusal f).number ≡ 0) where
  each-sound : (c : ℕ) → c < looked_at f → Sound (entry f c)
  each-sound c l = (accepted f e).at_record c (seen f c l).is

  pub mend_keeps : (mended f ≡ f) × (altered f ≡ [])
  mend_keeps = (same-mended f each-sound, no_lines f each-sound)

-- ---- a file that differs in width and depth bytes only
module _ (f g : List ℕ) (only : OnlyBoxes f g) (z : framed f ≡ true) where
  behind : (i : ℕ) → (trailer_of f).begin + record_size (form f) * (trailer_of f).count ≤ i → get_or g i 0 ≡ get_or f i 0
  behind i h = only.elsewhere i (λ c l. after (form f) (trailer_of f).begin c (trailer_of f).count i l h)

  -- its trailer is the same
  pub trailer_same : trailer_of g ≡ trailer_of f
  unfolding trailer_of number_at pair begin_place count_place allowance_place mark_place
  trailer_same =
      let n = (full f z).exact in
      let a : (k : ℕ) → get_or g (length f - trailer_size + k) 0 ≡ get_or f (length f - trailer_size + k) 0 = λ k. behind _ (omega (arith, n)) in
      let b : (k : ℕ) → get_or g (length f - trailer_size + k + 1) 0 ≡ get_or f (length f - trailer_size + k + 1) 0 = λ k. behind _ (omega (arith, n)) in
      rw (only.as_long, a 0, b 0, a 2, b 2, a 4, b 4, a 6, b 6) refl

  -- so are 2 to 4's answers
  pub framed-same : framed g ≡ framed f
  framed-same = rw (trailer_same, only.as_long) refl

  -- and of each record all but width and depth
  pub entry-same : (c : ℕ) → (entry g c).width ≡ (entry f c).width → (entry g c).depth ≡ (entry f c).depth → entry g c ≡ entry f c
  unfolding entry
  entry-same c w d =
      let w' : (record_at (form f) g (place f c)).width ≡ (record_at (form f) f (place f c)).width = rw trailer_same at w in
      let d' : (record_at (form f) g (place f c)).depth ≡ (record_at (form f) f (place f c)).depth = rw trailer_same at d in
      rw trailer_same (record_boxed (form f) (trailer_of f).begin c f g (λ i h. only.elsewhere i (λ b l. h b)) w' d')

-- ---- what mending does to each cell that it looks at
module _ (f : List ℕ) (c : ℕ) (l : c < looked_at f) where
  pub mend-entry : entry (mended f) c ≡ mended_record (entry f c)
  unfolding entry mended
  mend-entry =
      let s = seen f c l in
      let t : trailer_of (mended f) ≡ trailer_of f = trailer_same f (mended f) (mend-only f) s.frame in
      rw t (mends_read (form f) (trailer_of f).begin (entry f) f (λ b. refl) (looked_at f) c l (inside f c s))

-- a cell that differs in the mended file was looked at
pub differs_looked : (f : List ℕ) (c : ℕ) → c < (trailer_of f).count → T (differs f (mended f) c) → c < looked_at f
differs_looked f c l h = go (framed f) refl
  where
    itself_not : (r : Record) → T (not (eqb r.width r.width && eqb r.depth r.depth)) → ⊥
    itself_not r h = rw (is_true (says_eq r.width r.width) refl, is_true (says_eq r.depth r.depth) refl) at h

    go : (b : Bool) → framed f ≡ b → c < looked_at f
    go true e = omega (arith, looked_all f e)
    go false e = absurd (itself_not (entry f c) (unfold differs in rw (mend_unframed f e).0 at h))

-- ---- mend_again
pub mend_again : (f : List ℕ) → (mended (mended f) ≡ mended f) × (altered (mended f) ≡ [])
mend_again f = go (framed f) refl
  where
    go : (b : Bool) → framed f ≡ b → (mended (mended f) ≡ mended f) × (altered (mended f) ≡ [])
    go true e =
        let fr : framed (mended f) ≡ true = framed-same f (mended f) (mend-only f) e ∙ e in
        let n : looked_at (mended f) ≡ looked_at f = looked_all (mended f) fr ∙ ap (λ (t : Trailer). t.count) (trailer_same f (mended f) (mend-only f) e) ∙ sym (looked_all f e) in
        let h : (c : ℕ) → c < looked_at (mended f) → Sound (entry (mended f) c) = λ c l. rw (mend-entry f c (omega (arith, n))) (mended-sound (entry f c)) in
        (same-mended (mended f) h, no_lines (mended f) h)
    go false e = let (p, q) = mend_unframed f e in (ap mended p, ap altered p ∙ q)

-- ---- mend-fewest
not_both : (a b : Bool) → (T a → T b → ⊥) → T (not (a && b))
not_both true true h = absurd (h tt tt)
not_both true false h = tt
not_both false b h = tt

module _ (f g : List ℕ) (only : OnlyBoxes f g) (e : (file_refusal g).number ≡ 0) where
  pub mend-fewest-at : (c : ℕ) → c < looked_at f → T (changed (entry f c)) → T (differs f g c)
  unfolding differs
  mend-fewest-at c l h = not_both (eqb (entry g c).width (entry f c).width) (eqb (entry g c).depth (entry f c).depth) (λ p q. same (eqb→eq _ _ p) (eqb→eq _ _ q))
    where
      same : (entry g c).width ≡ (entry f c).width → (entry g c).depth ≡ (entry f c).depth → ⊥
      same w d =
          let s = seen f c l in
          let t = trailer_same f g only s.frame in
          let n : c < (trailer_of g).count = rw t s.is in
          let k : Sound (entry f c) = rw (entry-same f g only s.frame c w d) at ((accepted g e).at_record c n) in
          rw (sound_unchanged (entry f c) k) at h

  pub mend-fewest : (c : ℕ) → T (mem c (altered_cells f)) → T (mem c (altered_by f g))
  unfolding altered_cells altered_by
  mend-fewest c m =
      let k = keep-read (λ c. changed (entry f c)) (from 0 (looked_at f)) c m in
      let (a, b) = from-read 0 (looked_at f) c k.there in
      let l : c < looked_at f = omega arith in
      keep_show (differs f g) (from 0 (trailer_of f).count) c (from_show 0 (trailer_of f).count c (omega arith) (let i = (seen f c l).is in omega arith)) (mend-fewest-at c l k.passes)

keep_fewer : (p q : ℕ → Bool) (k d : ℕ) → ((c : ℕ) → c < k + d → T (p c) → T (q c)) → length (keep p (from k d)) ≤ length (keep q (from k d))
unfolding keep from
keep_fewer p q k zero h = omega arith
keep_fewer p q k (suc d) h = go (p k) (q k) (h k (omega arith)) (keep_fewer p q (suc k) d (λ c l. h c (omega arith)))
  where
    go : (a b : Bool) → (T a → T b) → length (keep p (from (suc k) d)) ≤ length (keep q (from (suc k) d))
        → length (cond a (k ∷ keep p (from (suc k) d)) (keep p (from (suc k) d))) ≤ length (cond b (k ∷ keep q (from (suc k) d)) (keep q (from (suc k) d)))
    go true true i l = omega arith
    go true false i l = absurd (i tt)
    go false true i l = omega arith
    go false false i l = l

module _ (f g : List ℕ) (only : OnlyBoxes f g) (e : (file_refusal g).number ≡ 0) where
  pub mend-fewest-count : length (altered f) ≤ length (altered_by f g)
  unfolding altered altered_cells altered_by
  mend-fewest-count = rw (length-map (keep (λ c. changed (entry f c)) (from 0 (looked_at f))) (λ c. alteration c (entry f c))) (go (framed f) refl)
    where
      go : (b : Bool) → framed f ≡ b → length (keep (λ c. changed (entry f c)) (from 0 (looked_at f))) ≤ length (keep (differs f g) (from 0 (trailer_of f).count))
      go true z = rw (← looked_all f z) (keep_fewer (λ c. changed (entry f c)) (differs f g) 0 (looked_at f) (λ c l. mend-fewest-at f g only e c (omega arith)))
      go false z = rw (looked_none f z) (none (differs f g) (trailer_of f).count)
        where
          none : (q : ℕ → Bool) (d : ℕ) → length (keep (λ c. changed (entry f c)) (from 0 0)) ≤ length (keep q (from 0 d))
          none q d = unfold from keep in omega arith
