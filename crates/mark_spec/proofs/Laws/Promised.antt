-- What a mark means: proofs of proofs/Promised.antt. Nothing that a reader must believe stands here. Assumes nothing.
use Rattle.std.specs.Prelude.{◌≡◌, refl, List, ◌++◌, ◌↔◌, Bool, true, false, cond, ℕ, ◌≤◌, ◌<◌, length, drop, replicate, leb, ℤ, pos, ◌≤ℤ◌, Result, Ok, Err}
use Rattle.std.proofs.Common.{sym, ap, ◌∙◌, arith, leb-true, leb-false}
use Rattle.std.proofs.Math.Decide.{ℕ_discrete}
use Rattle.whole.specs.Whole.{plus}
use Rattle.whole.proofs.Laws.Whole.{whole}
use Rattle.plan.specs.Limits.{scratch_size}
use Rattle.plan.specs.Plan.{Table}
use Rattle.plan.specs.Questions.{mark, none, refusal, mark_given}
use Rattle.plan.specs.declared.Breach.{Breach}
use Rattle.plan.specs.declared.Measures.{Measures}
use Rattle.plan.specs.declared.Refusal.{Refusal}
use Rattle.plan.proofs.Laws.Answered.{answered_none, answered_some}
use Rattle.rules.specs.Placement.{Placement, placed, width, rows}
use Rattle.rules.specs.Rules.{Keeps}
use Rattle.rules.specs.Search.{Verdict, kept, broken}
use Rattle.rules.specs.Verdict.{verdict, answer, Breaks}
use Rattle.rules.proofs.Laws.Verdict.{kept_keeps, keeps_kept, verdict-broken, breaks_verdict, fine-answer, faulty-answer}
use Rattle.contours.specs.Sheet.{sheet}
use Rattle.least.proofs.Theorems.{sheet_keeps, sheet-least}
use Rattle.least.proofs.Laws.Measures.{sheet-width}
use Rattle.checker.proofs.Laws.Checked.{Accepted, width-natural, rows-natural}
use Rattle.mark_spec.specs.declared.Marked.{Marked}
use Rattle.mark_spec.specs.declared.Marked.TheVariants.{Full, Wide, Broken}
use Rattle.mark_spec.specs.Marked.{full_of, wide_of, broken_of, refused_of, our_width, by_width, graded, marked_of, mark_scratch_after, Marks}
use Rattle.mark_spec.specs.Promises.{Narrowest, LeastWidth, FullWith, WideBy, IsFull, IsWide, IsBroken, IsRefused, OneOf, first, second, third, fourth}
use Rattle.mark_spec.proofs.Laws.Marked as laws
use Rattle.mark_spec.proofs.Laws.Marked.{asks, graded_clears, full_by}

-- ---- the cases are apart
full-same : (w h v k : ℕ) → full_of w h ≡ full_of v k → (w ≡ v) × (h ≡ k)
full-same w h v k e =
    let q : ◌≡◌ {A = Measures} (record { width = w; rows = h }) (record { width = v; rows = k }) = cc in
    (ap (λ (m : Measures). m.width) q, ap (λ (m : Measures). m.rows) q)

wide-same : (w l h v m k : ℕ) → wide_of w l h ≡ wide_of v m k → (w ≡ v) × (l ≡ m) × (h ≡ k)
wide-same w l h v m k e =
    let q : ◌≡◌ {A = Measures} (record { width = w; rows = h }) (record { width = v; rows = k }) = cc in
    (ap (λ (m : Measures). m.width) q, cc, ap (λ (m : Measures). m.rows) q)

broken-same : (r a b r' a' b' : ℕ) → broken_of r a b ≡ broken_of r' a' b' → (r ≡ r') × (a ≡ a') × (b ≡ b')
broken-same r a b r' a' b' e =
    let q : ◌≡◌ {A = Breach} (record { rule = r; a = a; b = b }) (record { rule = r'; a = a'; b = b' }) = cc in
    (ap (λ (x : Breach). x.rule) q, ap (λ (x : Breach). x.a) q, ap (λ (x : Breach). x.b) q)

refused-same : (x : Refusal) (k c : ℕ) → ◌≡◌ {A = Result Marked Refusal} (Err x) (Err (refused_of k c)) → x ≡ refused_of k c
refused-same x k c e = cc

ok-same : (a b : Marked) → ◌≡◌ {A = Result Marked Refusal} (Ok a) (Ok b) → a ≡ b
ok-same a b e = cc

ok-refused : (a : Marked) (x : Refusal) → ◌≡◌ {A = Result Marked Refusal} (Ok a) (Err x) → ⊥
ok-refused a x e = cc

full-wide : (w h v m k : ℕ) → full_of w h ≡ wide_of v m k → ⊥
full-wide w h v m k e = let n : ◌≡◌ {A = ℕ} 0 1 = cc in omega arith

full-broken : (w h r a b : ℕ) → full_of w h ≡ broken_of r a b → ⊥
full-broken w h r a b e = let n : ◌≡◌ {A = ℕ} 0 1 = cc in omega arith

wide-broken : (w l h r a b : ℕ) → wide_of w l h ≡ broken_of r a b → ⊥
wide-broken w l h r a b e = let n : ◌≡◌ {A = ℕ} 0 1 = cc in omega arith

-- exactly one of the four answers
pub one_answer : (r : Result Marked Refusal) → OneOf (IsFull r) (IsWide r) (IsBroken r) (IsRefused r)
one_answer (Ok (Full m)) =
    first (m.width, m.rows, refl) (λ (v, l, k, e). full-wide m.width m.rows v l k (ok-same _ _ e)) (λ (k, a, b, e). full-broken m.width m.rows k a b (ok-same _ _ e)) (λ (k, c, e). ok-refused _ _ e)
one_answer (Ok (Wide m l)) =
    second (λ (v, k, e). full-wide v k m.width l m.rows (sym (ok-same _ _ e))) (m.width, l, m.rows, refl) (λ (k, a, b, e). wide-broken m.width l m.rows k a b (ok-same _ _ e)) (λ (k, c, e). ok-refused _ _ e)
one_answer (Ok (Broken b)) =
    third (λ (v, k, e). full-broken v k b.rule b.a b.b (sym (ok-same _ _ e))) (λ (v, m, k, e). wide-broken v m k b.rule b.a b.b (sym (ok-same _ _ e))) (b.rule, b.a, b.b, refl) (λ (k, c, e). ok-refused _ _ e)
one_answer (Err x) = fourth (λ (v, h, e). ok-refused _ _ (sym e)) (λ (v, m, h, e). ok-refused _ _ (sym e)) (λ (r, a, b, e). ok-refused _ _ (sym e)) (x.number, x.cell, refl)

-- ---- by the width
full-read : (l w h v k : ℕ) → by_width l w h ≡ full_of v k → (w ≤ l) × (w ≡ v) × (h ≡ k)
unfolding by_width
full-read l w h v k e = go (leb w l) refl e
  where
    go : (b : Bool) → leb w l ≡ b → cond b (full_of w h) (wide_of w l h) ≡ full_of v k → (w ≤ l) × (w ≡ v) × (h ≡ k)
    go true y q = let (f, g) = full-same w h v k q in (leb-true w l y, f, g)
    go false y q = absurd (full-wide v k w l h (sym q))

wide_read : (l w h v m k : ℕ) → by_width l w h ≡ wide_of v m k → (l < w) × (w ≡ v) × (l ≡ m) × (h ≡ k)
unfolding by_width
wide_read l w h v m k e = go (leb w l) refl e
  where
    go : (b : Bool) → leb w l ≡ b → cond b (full_of w h) (wide_of w l h) ≡ wide_of v m k → (l < w) × (w ≡ v) × (l ≡ m) × (h ≡ k)
    go true y q = absurd (full-wide w h v m k q)
    go false y q = let (f, g, i) = wide-same w l h v m k q in (leb-false w l y, f, g, i)

broken-read : (l w h r a b : ℕ) → by_width l w h ≡ broken_of r a b → ⊥
unfolding by_width
broken-read l w h r a b e = go (leb w l) e
  where
    go : (y : Bool) → cond y (full_of w h) (wide_of w l h) ≡ broken_of r a b → ⊥
    go true q = full-broken w h r a b q
    go false q = wide-broken w l h r a b q

module _ (t : Table) (ps : List ℤ) (al : ℕ) (s s' : List ℕ) (r : Result Marked Refusal) (g : Marks t ps al s s' r) where
  abbrev why : Refusal
  why = refusal mark (mark_given t ps al (length s))

  abbrev l₀ : ℕ
  l₀ = our_width t al

  -- a refusal is answered, and leaves the scratch as it was
  pub unchanged : ¬ (why.number ≡ 0) → (r ≡ Err why) × (s' ≡ s)
  unfolding marked_of mark_scratch_after
  unchanged z =
      let e : r ≡ Err why = g.answers ∙ answered_some why _ z in
      (e, g.scratch ∙ rw e)

  graded-it : why.number ≡ 0 → r ≡ Ok (graded l₀ (answer t (placed ps) al))
  unfolding marked_of
  graded-it zero = g.answers ∙ answered_none why _ zero

  -- REFUSED, exactly where a question refuses
  pub refused_iff : (k c : ℕ) → (r ≡ Err (refused_of k c)) ↔ ((¬ (k ≡ 0)) × (why ≡ record { number = k; cell = c }))
  refused_iff k c = (there (ℕ_discrete why.number 0), back)
    where
      there : Dec (why.number ≡ 0) → r ≡ Err (refused_of k c) → (¬ (k ≡ 0)) × (why ≡ record { number = k; cell = c })
      there (yes z) e = absurd (ok-refused _ _ (sym (graded-it z) ∙ e))
      there (no z) e =
          let q = refused-same why k c (sym (unchanged z).0 ∙ e) in
          (λ y. z (ap (λ (x : Refusal). x.number) q ∙ y), q)

      back : (¬ (k ≡ 0)) × (why ≡ record { number = k; cell = c }) → r ≡ Err (refused_of k c)
      back (n, e) = (unchanged (λ y. n (sym (ap (λ (x : Refusal). x.number) e) ∙ y))).0 ∙ ap Err e

  -- ---- where no question refuses
  module _ (n : why ≡ none) where
    zero : why.number ≡ 0
    zero = ap (λ (x : Refusal). x.number) n

    fair : Accepted t al ps
    fair = asks t ps al s zero

    is : r ≡ Ok (graded l₀ (answer t (placed ps) al))
    is = graded-it zero

    -- it leaves the scratch as Layout does
    pub clears : s' ≡ replicate scratch_size 0 ++ drop scratch_size s
    clears = g.scratch ∙ rw is (graded_clears l₀ (answer t (placed ps) al) s)

    -- our sheet's width is the least there is
    least-natural : width t (sheet t al) ≡ pos l₀
    least-natural = let e = sheet-width t fair.fit.sound al fair.fit.some_cell in e ∙ ap pos (sym (ap plus e))

    ours_keeps : Keeps t (sheet t al) al
    ours_keeps = sheet_keeps t fair.fit.some_cell fair.fit.sound al

    ours-least : (q : Placement) → Keeps t q al → width t (sheet t al) ≤ℤ width t q
    ours-least q k = (sheet-least t fair.fit.some_cell fair.fit.sound al q k).wide

    least-is : LeastWidth t al l₀
    least-is = record { some = sheet t al; keeps = ours_keeps; wide = least-natural; none_less = λ q k. rw least-natural at (ours-least q k) }

    -- and there is one least width only
    least-one : (m : ℕ) → LeastWidth t al m → m ≡ l₀
    least-one m h =
        let a : pos m ≤ℤ width t (sheet t al) = h.none_less (sheet t al) ours_keeps in
        let b : width t (sheet t al) ≤ℤ width t h.some = ours-least h.some h.keeps in
        let c : width t h.some ≡ pos m = h.wide in
        let d : width t (sheet t al) ≡ pos l₀ = least-natural in
        omega whole

    on-kept : verdict t (placed ps) al ≡ kept → r ≡ Ok (by_width l₀ (plus (width t (placed ps))) (plus (rows t (placed ps))))
    unfolding graded
    on-kept e = is ∙ rw (fine-answer t (placed ps) al e)

    on-broken : (k a b : ℕ) → verdict t (placed ps) al ≡ broken k a b → r ≡ Ok (broken_of k a b)
    unfolding graded
    on-broken k a b e = is ∙ rw (faulty-answer t (placed ps) al k a b e)

    keeps_of : verdict t (placed ps) al ≡ kept → Keeps t (placed ps) al
    keeps_of e = kept_keeps t (placed ps) al fair.fit.some_cell e

    deep_of : verdict t (placed ps) al ≡ kept → rows t (placed ps) ≡ pos (plus (rows t (placed ps)))
    deep_of e = let d = rows-natural t al ps fair e in d ∙ ap pos (sym (ap plus d))

    -- full marks, with the width and the rows
    pub full_iff : (w h : ℕ) → (r ≡ Ok (full_of w h)) ↔ FullWith t (placed ps) al w h
    full_iff w h = (λ e. there (verdict t (placed ps) al) refl e, back)
      where
        there : (v : Verdict) → verdict t (placed ps) al ≡ v → r ≡ Ok (full_of w h) → FullWith t (placed ps) al w h
        there kept q e =
            let (i, f, k) = full-read l₀ (plus (width t (placed ps))) (plus (rows t (placed ps))) w h (ok-same _ _ (sym (on-kept q) ∙ e)) in
            let n : width t (placed ps) ≡ pos (plus (width t (placed ps))) = width-natural t al ps fair in
            record {
              narrowest = record {
                keeps = keeps_of q;
                none_narrower = λ o k.
                    let b : width t (sheet t al) ≤ℤ width t o = ours-least o k in
                    let d : width t (sheet t al) ≡ pos l₀ = least-natural in
                    omega (whole, i, n, b, d);
              };
              wide = n ∙ ap pos f;
              deep = deep_of q ∙ ap pos k;
            }
        there (broken k a b) q e = absurd (full-broken w h k a b (ok-same _ _ (sym e ∙ on-broken k a b q)))

        back : FullWith t (placed ps) al w h → r ≡ Ok (full_of w h)
        back f =
            let b : width t (placed ps) ≤ℤ width t (sheet t al) = f.narrowest.none_narrower (sheet t al) ours_keeps in
            let d : width t (sheet t al) ≡ pos l₀ = least-natural in
            let i : w ≤ l₀ = omega (whole, f.wide, b, d) in
            on-kept (keeps_kept t (placed ps) al f.narrowest.keeps) ∙ rw (f.wide, f.deep) (ap Ok (sym (full_by l₀ w h i)))

    -- FULL MARKS, exactly where the drawing keeps the rules and none that keeps them is narrower
    pub full_marks : IsFull r ↔ Narrowest t (placed ps) al
    full_marks = (λ (w, h, e). ((full_iff w h).0 e).narrowest, back)
      where
        back : Narrowest t (placed ps) al → IsFull r
        back f =
            let w = plus (width t (placed ps)) in
            let h = plus (rows t (placed ps)) in
            (w, h, (full_iff w h).1 (record { narrowest = f; wide = width-natural t al ps fair; deep = deep_of (keeps_kept t (placed ps) al f.keeps) }))

    -- WIDE, exactly where it keeps them, with its width, its rows and the least width, which is less
    pub wide_by : (w l h : ℕ) → (r ≡ Ok (wide_of w l h)) ↔ WideBy t (placed ps) al w l h
    wide_by w l h = (λ e. there (verdict t (placed ps) al) refl e, back)
      where
        there : (v : Verdict) → verdict t (placed ps) al ≡ v → r ≡ Ok (wide_of w l h) → WideBy t (placed ps) al w l h
        there kept q e =
            let (i, f, m, k) = wide_read l₀ (plus (width t (placed ps))) (plus (rows t (placed ps))) w l h (ok-same _ _ (sym (on-kept q) ∙ e)) in
            record {
              keeps = keeps_of q;
              wide = width-natural t al ps fair ∙ ap pos f;
              deep = deep_of q ∙ ap pos k;
              least = rw (sym m) least-is;
              wider = omega (arith, i, f, m);
            }
        there (broken k a b) q e = absurd (wide-broken w l h k a b (ok-same _ _ (sym e ∙ on-broken k a b q)))

        back : WideBy t (placed ps) al w l h → r ≡ Ok (wide_of w l h)
        back f =
            let m : l ≡ l₀ = least-one l f.least in
            let i : l₀ < w = omega (arith, m, f.wider) in
            on-kept (keeps_kept t (placed ps) al f.keeps) ∙ rw (f.wide, f.deep, m) (ap Ok (sym (laws.wide_by l₀ w h i)))

    -- BROKEN, as Check
    pub broken_iff : (k a b : ℕ) → (r ≡ Ok (broken_of k a b)) ↔ Breaks t (placed ps) al k a b
    broken_iff k a b = (λ e. there (verdict t (placed ps) al) refl e, λ h. on-broken k a b (breaks_verdict t (placed ps) al fair.fit.some_cell k a b h))
      where
        there : (v : Verdict) → verdict t (placed ps) al ≡ v → r ≡ Ok (broken_of k a b) → Breaks t (placed ps) al k a b
        there kept q e = absurd (broken-read l₀ (plus (width t (placed ps))) (plus (rows t (placed ps))) k a b (ok-same _ _ (sym (on-kept q) ∙ e)))
        there (broken k' a' b') q e =
            let (x, y, z) = broken-same k' a' b' k a b (ok-same _ _ (sym (on-broken k' a' b' q) ∙ e)) in
            verdict-broken t (placed ps) al k a b (rw (x, y, z) at q)
