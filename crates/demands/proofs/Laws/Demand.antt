-- DEMAND 3 AT THE CALLS: what Check answers against what Layout answers, for the same table and allowance. Assumes nothing.
use Rattle.std.proofs.Math.Path.{◌≡◌}
use Rattle.std.specs.Prelude.{refl, List, ℕ, ◌≤◌, ℤ, Result, Ok}
use Rattle.std.proofs.Common.{sym, ap, ◌∙◌, arith}
use Rattle.whole.specs.Whole.{plus}
use Rattle.whole.proofs.Laws.Whole.{whole}
use Rattle.plan.specs.Plan.{Table}
use Rattle.plan.specs.Questions.{check, refusal, check_given}
use Rattle.plan.specs.declared.Measures.{Measures}
use Rattle.plan.specs.declared.Refusal.{Refusal}
use Rattle.plan.proofs.Laws.Answered.{not_refused, answered_none}
use Rattle.rules.specs.Placement.{placed}
use Rattle.rules.specs.Verdict.{Answer, fine, faulty, answer}
use Rattle.rules.proofs.Laws.Verdict.{kept_keeps, answer-fine}
use Rattle.layout.specs.Laid.{Lays}
use Rattle.layout.proofs.Laws.Laid.{sheet-asks}
use Rattle.layout.proofs.Laws.Promised.{promised}
use Rattle.demands.specs.Outcomes.{sheet_of, kept_of}
use Rattle.checker.specs.Checked.{answered, checked_of}
use Rattle.checker.specs.declared.Verdict.{Verdict}
use Rattle.checker.specs.declared.Verdict.TheVariants.{Kept}

-- a sheet that Check accepts is one that it answers `fine` of
in_ok : {x y : Verdict} → ◌≡◌ {A = Result Verdict Refusal} (Ok x) (Ok y) → x ≡ y
in_ok e = cc

in_kept : {m n : Measures} → Kept m ≡ Kept n → m ≡ n
in_kept e = cc

kept_fine : (t : Table) (al : ℕ) (qs : List ℤ) (v k : ℕ) → checked_of t qs al ≡ kept_of v k → (w : ℤ) × (r : ℤ) × (answer t (placed qs) al ≡ fine w r) × (plus w ≡ v) × (plus r ≡ k)
unfolding checked_of answered
kept_fine t al qs v k e =
    let why = refusal check (check_given t al qs) in
    let z = not_refused why _ _ (sym e) in
    found (answer t (placed qs) al) refl (in_ok (sym (answered_none why _ z) ∙ e))
  where
    found : (a : Answer) → answer t (placed qs) al ≡ a → answered a ≡ Kept (record { width = v; rows = k }) → (w : ℤ) × (r : ℤ) × (answer t (placed qs) al ≡ fine w r) × (plus w ≡ v) × (plus r ≡ k)
    found (fine w r) q f = let m = in_kept f in (w, r, q, ap (λ (x : Measures). x.width) m, ap (λ (x : Measures). x.rows) m)
    found (faulty r a b) q f = let z : ◌≡◌ {A = ℕ} 0 1 = cc in absurd (omega arith)

module _ (t : Table) (al : ℕ) (s s' : List ℕ) (ps ps' : List ℤ) (w h : ℕ) (l : Lays t al s s' ps ps' (sheet_of w h)) where
  -- Check accepts what Layout writes, with Layout's width and rows.
  pub layout-accepted : checked_of t ps' al ≡ kept_of w h
  unfolding checked_of answered
  layout-accepted =
      let p = promised t al s s' ps ps' _ l in
      answered_none (refusal check (check_given t al ps')) _ (ap (λ (x : Refusal). x.number) p.unrefused) ∙ rw p.accepted

  -- No sheet that Check accepts is narrower than Layout's, and its rows are the same.
  pub none_narrower : (qs : List ℤ) (v k : ℕ) → checked_of t qs al ≡ kept_of v k → (w ≤ v) × (k ≡ h)
  none_narrower qs v k e =
      let (w', r', q, ew, er) = kept_fine t al qs v k e in
      let p = promised t al s s' ps ps' _ l in
      let some = (sheet-asks t al s s' ps ps' _ l).table.fit.some_cell in
      let f = answer-fine t (placed qs) al w' r' q in
      let n = p.least (placed qs) (kept_keeps t (placed qs) al some f.verdict_kept) in
      (omega (whole, n.wide, p.wide, f.wide), sym er ∙ ap plus (f.deep ∙ n.deep ∙ p.deep))
