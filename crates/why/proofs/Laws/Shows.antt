-- Laws of the definitions in specs/Shows.antt. Assumes nothing.
use Rattle.std.specs.Prelude.{◌≡◌, true, List, ℕ, ◌≤◌, length, ℤ, Option, Some, Result, Ok, Err, IsErrAnd, IsSome}
use Rattle.std.proofs.Common.{sym, subst}
use Rattle.plan.specs.Limits.{most_allowance}
use Rattle.plan.specs.Plan.{Table}
use Rattle.plan.specs.Fit.{Fit}
use Rattle.plan.specs.Columns.{table_of}
use Rattle.plan.specs.declared.Columns.{Columns}
use Rattle.plan.specs.declared.Measures.{Measures}
use Rattle.plan.specs.declared.Refusal.{Refusal}
use Rattle.plan.proofs.Laws.Tables.{length-is}
use Rattle.plan.specs.Near.{Near}
use Rattle.plan.specs.Questions.{check, none, refusal, check_given}
use Rattle.rules.specs.Placement.{Agree, placed}
use Rattle.rules.specs.Rules.{S1}
use Rattle.contours.specs.Sheet.{sheet}
use Rattle.positions.specs.Written.{written}
use Rattle.positions.proofs.Laws.Written.{written_agree}
use Rattle.why_search.specs.Explains.{Explained}
use Rattle.why_search.specs.declared.Chain.{Chain}
use Rattle.layout.specs.Laid.{Lays, positions_after}
use Rattle.layout.proofs.Laws.Promised.{promised}
use Rattle.why.specs.declared.Shown.{Shown}
use Rattle.why.specs.Shows.{Shows}
use Rattle.why.proofs.Laws.Ours as ours

-- where Layout answers with a sheet
module _ (t : Table) (al : ℕ) (s s' : List ℕ) (ps ps' : List ℤ) (m : Measures) (l : Lays t al s s' ps ps' (Ok m)) where
  pub unrefused : refusal check (check_given t al ps') ≡ none
  unrefused = (promised t al s s' ps ps' m l).unrefused

  pub agrees : Agree t (placed ps') (sheet t al)
  unfolding positions_after
  agrees = let e : ps' ≡ written ps (sheet t al) (length t) = l.positions in rw e (written_agree (sheet t al) t ps)

  pub is_some_chain : (c : Option Chain) → Explained t al (placed ps') c → IsSome c
  is_some_chain c x = ours.there t al ps' unrefused agrees c x

  pub shows : (c : Chain) → Explained t al (placed ps') (Some c) → Shows t al s s' ps ps' (Ok (record { measures = m; chain = c }))
  shows c x = record { lays = l; drawn = λ y z. subst (λ (c : Chain). ours.Ours t al ps' c) (same z) found }
    where
      found : ours.Ours t al ps' c
      found = let (e, q, r) = ours.explained t al ps' unrefused agrees true c.count c.cells c.rules x in (q, r)

      same : {y : Shown} → ◌≡◌ {A = Result Shown Refusal} (Ok (record { measures = m; chain = c })) (Ok y) → c ≡ y.chain
      same z = cc

pub shows_refused : (t : Table) (al : ℕ) (s s' : List ℕ) (ps ps' : List ℤ) (y : Result Shown Refusal) {r : Refusal} → Lays t al s s' ps ps' (Err r) → IsErrAnd y (λ d. d ≡ r) → Shows t al s s' ps ps' y
shows_refused t al s s' ps ps' (Ok x) l p = absurd p
shows_refused t al s s' ps ps' (Err d) l p = record { lays = subst (λ (r : Refusal). Lays t al s s' ps ps' (Err r)) (sym p) l; drawn = λ x z. cc }

-- ---- over columns
module _ (t : Columns) (al : ℕ) {s s' : List ℕ} {ps ps' : List ℤ} {m : Measures} (l : Lays (table_of t) al s s' ps ps' (Ok m)) where
  pub is-asked : Fit (table_of t) × Near ps' t.count × (al ≤ most_allowance) × S1 (table_of t) (placed ps')
  is-asked =
      let u = unrefused (table_of t) al s s' ps ps' m l in
      let a = agrees (table_of t) al s s' ps ps' m l in
      (ours.fit (table_of t) al ps' u, subst (λ (n : ℕ). Near ps' n) (length-is t) (ours.near (table_of t) al ps' u), ours.small (table_of t) al ps' u, (ours.keeps (table_of t) al ps' u a).s1)

  pub is-explained : (c : Option Chain) → Explained (table_of t) al (placed ps') c → IsSome c
  is-explained c x = is_some_chain (table_of t) al s s' ps ps' m l c x

  pub is-shown : (o : Option Chain) {c : Chain} → Explained (table_of t) al (placed ps') o → o ≡ Some c → Shows (table_of t) al s s' ps ps' (Ok (record { measures = m; chain = c }))
  is-shown o {c} x e = shows (table_of t) al s s' ps ps' m l c (subst (λ (o : Option Chain). Explained (table_of t) al (placed ps') o) e x)
