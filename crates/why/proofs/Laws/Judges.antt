-- Laws of the definitions in specs/Judges.antt. Assumes nothing.
use Rattle.std.proofs.Math.Path.{◌≡◌}
use Rattle.std.specs.Prelude.{refl, true, false, List, ℕ, ◌≤◌, ℤ, pos, ◌≤ℤ◌, ◌<ℤ◌, Option, Result, Ok, Err, IsErrAnd}
use Rattle.std.proofs.Common.{sym, ap, subst, ◌∙◌}
use native.Mathlib.Omega.{arith}
use Rattle.whole.specs.Whole.{plus}
use Rattle.whole.proofs.Laws.Whole.{whole, not_le}
use Rattle.plan.specs.Limits.{most_allowance}
use Rattle.plan.specs.Plan.{Table}
use Rattle.plan.specs.Fit.{Fit}
use Rattle.plan.specs.Columns.{table_of}
use Rattle.plan.specs.declared.Columns.{Columns}
use Rattle.plan.specs.declared.Measures.{Measures}
use Rattle.plan.specs.declared.Breach.{Breach}
use Rattle.plan.specs.declared.Refusal.{Refusal}
use Rattle.plan.proofs.Laws.Answered.{not_refused, answered_none}
use Rattle.plan.proofs.Laws.Tables.{length-is}
use Rattle.plan.specs.Near.{Near}
use Rattle.plan.specs.Questions.{check, refusal, check_given}
use Rattle.rules.specs.Placement.{Placement, placed, width, rows}
use Rattle.rules.specs.Rules.{S1, Keeps}
use Rattle.rules.specs.Search.{kept, broken}
use Rattle.rules.specs.Search as search
use Rattle.rules.specs.Verdict.{verdict, answer}
use Rattle.rules.proofs.Laws.Verdict.{kept_keeps, fine-answer, faulty-answer}
use Rattle.contours.specs.Sheet.{sheet}
use Rattle.checker.specs.Checked.{answered, checked_of}
use Rattle.checker.proofs.Laws.Checked.{Accepted, accepted, width-natural}
use Rattle.checker.specs.declared.Verdict.{Verdict}
use Rattle.checker.specs.declared.Verdict.TheVariants.{Kept, Broken}
use Rattle.why_spec.specs.Measures.{extent, across, Demanded}
use Rattle.why_spec.specs.Links.{Certifies}
use Rattle.why_spec.proofs.Theorems.{width_is, why-because, why-found, certified_least}
use Rattle.why_search.specs.Explains.{told, Explains, Explained}
use Rattle.why_search.specs.declared.Chain.{Chain}
use Rattle.why.specs.declared.Judged.{Judged}
use Rattle.why.specs.declared.Judged.TheVariants as judged
use Rattle.why.specs.Judges.{Judges}

answered-faulty : (t : Table) (p : Placement) (al r a b : ℕ) → verdict t p al ≡ broken r a b → answered (answer t p al) ≡ Broken (record { rule = r; a = a; b = b })
unfolding answered
answered-faulty t p al r a b q = rw (faulty-answer t p al r a b q)

answered-fine : (t : Table) (p : Placement) (al : ℕ) → verdict t p al ≡ kept → answered (answer t p al) ≡ Kept (record { width = plus (width t p); rows = plus (rows t p) })
unfolding answered
answered-fine t p al q = rw (fine-answer t p al q)

-- where Check answers "kept"
module _ (t : Table) (al : ℕ) (ps : List ℤ) (m : Measures) (e : checked_of t ps al ≡ Ok (Kept m)) where
  zero_number : (refusal check (check_given t al ps)).number ≡ 0
  unfolding checked_of
  zero_number = not_refused _ _ _ (sym e)

  pub fair : Accepted t al ps
  fair = accepted t al ps zero_number

  said : answered (answer t (placed ps) al) ≡ Kept m
  unfolding checked_of
  said = let q : ◌≡◌ {A = Result Verdict Refusal} (Ok (answered (answer t (placed ps) al))) (Ok (Kept m)) = sym (answered_none _ _ zero_number) ∙ e in cc

  is-kept : verdict t (placed ps) al ≡ kept
  is-kept = go (verdict t (placed ps) al) refl
    where
      go : (v : search.Verdict) → verdict t (placed ps) al ≡ v → v ≡ kept
      go kept q = refl
      go (broken r a b) q = cc (sym (answered-faulty t (placed ps) al r a b q) ∙ said)

  pub keeps : Keeps t (placed ps) al
  keeps = kept_keeps t (placed ps) al fair.fit.some_cell is-kept

  wide : width t (placed ps) ≡ pos m.width
  wide = width-natural t al ps fair ∙ ap pos (same (sym (answered-fine t (placed ps) al is-kept) ∙ said))
    where
      same : {n : Measures} → Kept n ≡ Kept m → n.width ≡ m.width
      same q = cc

  -- a chain: no placement that keeps the rules is narrower, and our sheet is as wide
  pub judged_least : (count : ℕ) (cells rules : List ℕ) → Explains t al (placed ps) true count cells rules
      → Certifies t al (across t) (pos m.width) (told t al (placed ps) count cells) × (width t (sheet t al) ≡ pos m.width)
  judged_least count cells rules x =
      let f = fair.fit in
      let c = (why-because t f.some_cell f.sound al (across t) (placed ps) _ (x.yes refl).0).0 in
      let q = certified_least t f.some_cell f.sound al (across t) Demanded.the_width (placed ps) keeps _ c in
      let u : extent (across t) (placed ps) ≡ pos m.width = width_is t (placed ps) ∙ wide in
      (rw u at c, sym (width_is t (sheet t al)) ∙ sym q ∙ u)

  -- none: our sheet is narrower
  pub judged_wider : (count : ℕ) (cells rules : List ℕ) → Explains t al (placed ps) false count cells rules → width t (sheet t al) <ℤ pos m.width
  judged_wider count cells rules x = not_le (λ k. no (omega (whole, wide)))
    where
      no : width t (placed ps) ≤ℤ width t (sheet t al) → ⊥
      no k =
          let f = fair.fit in
          let j = why-found t f.some_cell f.sound al (across t) Demanded.the_width (placed ps) keeps (rw (width_is t (placed ps), width_is t (sheet t al)) k) in
          let z : ◌≡◌ {A = ℕ} 0 1 = cc (x.no refl, j) in
          omega arith

-- ---- over columns
module _ (t : Columns) (al : ℕ) (ps : List ℤ) {v : Verdict} (l : Ok v ≡ checked_of (table_of t) ps al) where
  pub kept-asked : {m : Measures} → v ≡ Kept m → Fit (table_of t) × Near ps t.count × (al ≤ most_allowance) × S1 (table_of t) (placed ps)
  kept-asked e =
      let k = sym l ∙ ap Ok e in
      let f = fair (table_of t) al ps _ k in
      (f.fit, subst (λ (n : ℕ). Near ps n) (length-is t) f.near, f.small, (keeps (table_of t) al ps _ k).s1)

  pub kept_judged : {m : Measures} → v ≡ Kept m → (c : Option Chain) → Explained (table_of t) al (placed ps) c → Judges (table_of t) al ps (Ok (judged.Kept m c))
  kept_judged {m} e c x = record { checks = ap Ok (sym e) ∙ l; kept = λ n d z. subst (λ (o : Option Chain). Explained (table_of t) al (placed ps) o) (same z) x; other = λ n. absurd (n m refl) }
    where
      same : {n : Measures} {d : Option Chain} → ◌≡◌ {A = Result Judged Refusal} (Ok (judged.Kept m c)) (Ok (judged.Kept n d)) → c ≡ d
      same z = cc

  pub broken_judged : {b : Breach} → v ≡ Broken b → Judges (table_of t) al ps (Ok (judged.Broken b))
  broken_judged e = record { checks = ap Ok (sym e) ∙ l; kept = λ m c z. cc; other = λ n. refl }

pub refused_judged : (t : Table) (al : ℕ) (ps : List ℤ) (y : Result Judged Refusal) {r : Refusal} → Err r ≡ checked_of t ps al → IsErrAnd y (λ d. d ≡ r) → Judges t al ps y
refused_judged t al ps (Ok v) l p = absurd p
refused_judged t al ps (Err d) l p = record { checks = ap Err p ∙ l; kept = λ m c z. cc; other = λ n. refl }
