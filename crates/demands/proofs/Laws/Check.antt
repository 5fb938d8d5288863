-- What Check answers where no question refuses, and where one does; so does Ends. Nothing that a reader must believe stands here. Assumes nothing.
use Rattle.std.specs.Prelude.{◌≡◌, refl, List, ◌↔◌, ℕ, ℤ, pos, ◌+ℤ◌, Result, Ok, Err}
use Rattle.std.proofs.Common.{sym, ap, ◌∙◌, arith}
use Rattle.whole.specs.Whole.{plus}
use Rattle.plan.specs.Plan.{Table, parent, box_width, box_depth}
use Rattle.plan.specs.Questions.{check, ends, none, refusal, check_given, ends_given}
use Rattle.plan.specs.declared.Refusal.{Refusal}
use Rattle.plan.specs.declared.Measures.{Measures}
use Rattle.plan.specs.declared.Breach.{Breach}
use Rattle.plan.proofs.Laws.Answered.{answered_none, answered_some}
use Rattle.rules.specs.Placement.{placed, width, rows}
use Rattle.rules.specs.Rules.{Keeps}
use Rattle.rules.specs.Search.{Verdict, kept, broken}
use Rattle.rules.specs.Verdict.{verdict, answer, Breaks}
use Rattle.rules.proofs.Laws.Verdict.{kept_keeps, keeps_kept, verdict-broken, breaks_verdict, fine-answer, faulty-answer}
use Rattle.checker.specs.Checked.{answered, checked_of}
use Rattle.checker.proofs.Laws.Checked.{Accepted, accepted, width-natural, rows-natural}
use Rattle.checker.specs.declared.Verdict.{Verdict as Told}
use Rattle.checker.specs.declared.Verdict.TheVariants.{Kept, Broken}
use Rattle.ends.specs.Ended.{half, joined, ended_of}
use Rattle.ends.specs.Nearest.{Nearest}
use Rattle.ends.proofs.Halves.{half-nearest}
use Rattle.demands.specs.Outcomes.{kept_of, breach_of, Judged}

module _ (t : Table) (al : ℕ) (ps : List ℤ) (z : refusal check (check_given t al ps) ≡ none) where
  unrefused : checked_of t ps al ≡ Ok (answered (answer t (placed ps) al))
  unfolding checked_of
  unrefused = answered_none (refusal check (check_given t al ps)) _ (ap (λ (r : Refusal). r.number) z)

  fair : Accepted t al ps
  fair = accepted t al ps (ap (λ (r : Refusal). r.number) z)

  on-kept : verdict t (placed ps) al ≡ kept → checked_of t ps al ≡ kept_of (plus (width t (placed ps))) (plus (rows t (placed ps)))
  unfolding answered
  on-kept e = unrefused ∙ rw (fine-answer t (placed ps) al e)

  on-broken : (r a b : ℕ) → verdict t (placed ps) al ≡ broken r a b → checked_of t ps al ≡ breach_of r a b
  unfolding answered
  on-broken r a b e = unrefused ∙ rw (faulty-answer t (placed ps) al r a b e)

  kept_in : {m n : Measures} → ◌≡◌ {A = Result Told Refusal} (Ok (Kept m)) (Ok (Kept n)) → m ≡ n
  kept_in e = cc

  broken_in : {x y : Breach} → ◌≡◌ {A = Result Told Refusal} (Ok (Broken x)) (Ok (Broken y)) → x ≡ y
  broken_in e = cc

  kept_same : (w h v k : ℕ) → kept_of w h ≡ kept_of v k → (w ≡ v) × (h ≡ k)
  kept_same w h v k e = let q = kept_in e in (ap (λ (m : Measures). m.width) q, ap (λ (m : Measures). m.rows) q)

  broken-same : (r a b r' a' b' : ℕ) → breach_of r a b ≡ breach_of r' a' b' → (r ≡ r') × (a ≡ a') × (b ≡ b')
  broken-same r a b r' a' b' e = let q = broken_in e in (ap (λ (x : Breach). x.rule) q, ap (λ (x : Breach). x.a) q, ap (λ (x : Breach). x.b) q)

  not_both : (w h r a b : ℕ) → kept_of w h ≡ breach_of r a b → ⊥
  not_both w h r a b e = let n : ◌≡◌ {A = ℕ} 0 1 = cc in omega arith

  pub kept_iff : (w h : ℕ) → (checked_of t ps al ≡ kept_of w h) ↔ Judged t (placed ps) al w h
  kept_iff w h = (λ e. there (verdict t (placed ps) al) refl e, back)
    where
      there : (v : Verdict) → verdict t (placed ps) al ≡ v → checked_of t ps al ≡ kept_of w h → Judged t (placed ps) al w h
      there kept q e =
          let (f, g) = kept_same _ _ w h (sym (on-kept q) ∙ e) in
          let deep = rows-natural t al ps fair q in
          record {
            keeps = kept_keeps t (placed ps) al fair.fit.some_cell q;
            wide = width-natural t al ps fair ∙ ap pos f;
            deep = deep ∙ ap pos (sym (ap plus deep) ∙ g);
          }
      there (broken r a b) q e = absurd (not_both w h r a b (sym e ∙ on-broken r a b q))

      back : Judged t (placed ps) al w h → checked_of t ps al ≡ kept_of w h
      back j = on-kept (keeps_kept t (placed ps) al j.keeps) ∙ rw (j.wide, j.deep)

  pub broken_iff : (r a b : ℕ) → (checked_of t ps al ≡ breach_of r a b) ↔ Breaks t (placed ps) al r a b
  broken_iff r a b = (λ e. there (verdict t (placed ps) al) refl e, λ k. on-broken r a b (breaks_verdict t (placed ps) al fair.fit.some_cell r a b k))
    where
      there : (v : Verdict) → verdict t (placed ps) al ≡ v → checked_of t ps al ≡ breach_of r a b → Breaks t (placed ps) al r a b
      there kept q e = absurd (not_both _ _ r a b (sym (on-kept q) ∙ e))
      there (broken r' a' b') q e =
          let (x, y, z) = broken-same r' a' b' r a b (sym (on-broken r' a' b' q) ∙ e) in
          verdict-broken t (placed ps) al r a b (rw (x, y, z) at q)

  -- ---- one of the two is answered, and no refusal
  pub keeps_iff : ((w : ℕ) × (h : ℕ) × (checked_of t ps al ≡ kept_of w h)) ↔ Keeps t (placed ps) al
  keeps_iff = (λ k. ((kept_iff k.0 k.1).0 k.2).keeps, λ k. (_, _, on-kept (keeps_kept t (placed ps) al k)))

  not_kept : ¬ (Keeps t (placed ps) al) → (v : Verdict) → verdict t (placed ps) al ≡ v → (r : ℕ) × (a : ℕ) × (b : ℕ) × (checked_of t ps al ≡ breach_of r a b)
  not_kept n kept q = absurd (n (kept_keeps t (placed ps) al fair.fit.some_cell q))
  not_kept n (broken r a b) q = (r, a, b, on-broken r a b q)

  pub breaks_iff : ((r : ℕ) × (a : ℕ) × (b : ℕ) × (checked_of t ps al ≡ breach_of r a b)) ↔ (¬ (Keeps t (placed ps) al))
  breaks_iff = (
    λ k j. not_both _ _ k.0 k.1 k.2 (sym (on-kept (keeps_kept t (placed ps) al j)) ∙ k.3),
    λ n. not_kept n (verdict t (placed ps) al) refl,
  )

  ok_not : (v : Told) (r : Refusal) → ◌≡◌ {A = Result Told Refusal} (Ok v) (Err r) → ⊥
  ok_not v r e = let n : ◌≡◌ {A = ℕ} 0 1 = cc in omega arith

  pub no-refusal : (r : Refusal) → ¬ (checked_of t ps al ≡ Err r)
  no-refusal r e = ok_not _ r (sym unrefused ∙ e)

-- ---- a refusal
pub check-refused : (t : Table) (al : ℕ) (ps : List ℤ) → ¬ ((refusal check (check_given t al ps)).number ≡ 0)
    → checked_of t ps al ≡ Err (refusal check (check_given t al ps))
unfolding checked_of
check-refused t al ps z = answered_some (refusal check (check_given t al ps)) _ z

pub ends-refused : (t : Table) (ps : List ℤ) (c : ℕ) → ¬ ((refusal ends (ends_given t ps c)).number ≡ 0)
    → ended_of t ps c ≡ Err (refusal ends (ends_given t ps c))
unfolding ended_of
ends-refused t ps c z = answered_some (refusal ends (ends_given t ps c)) _ z

-- ---- the ends of a connector
pub ends_given_as : (t : Table) (ps : List ℤ) (c : ℕ) → refusal ends (ends_given t ps c) ≡ none
    → (h : ℕ) × (h' : ℕ) × Nearest (box_width t (parent t c)) h × Nearest (box_width t c) h'
    × (ended_of t ps c ≡ Ok (record { from_x = (placed ps).x (parent t c) +ℤ pos h; from_y = (placed ps).y (parent t c) +ℤ pos (box_depth t (parent t c)); to_x = (placed ps).x c +ℤ pos h'; to_y = (placed ps).y c }))
unfolding ended_of joined
ends_given_as t ps c z = (half (box_width t (parent t c)), half (box_width t c), half-nearest (box_width t (parent t c)), half-nearest (box_width t c), answered_none (refusal ends (ends_given t ps c)) _ (ap (λ (r : Refusal). r.number) z))
