-- What is asked of positions that hold our sheet, and what is found of them. Assumes nothing.
use Rattle.std.specs.Prelude.{◌≡◌, refl, Bool, true, false, List, ℕ, ◌≤◌, length, ℤ, ◌≤ℤ◌, Option, Some, None, IsSome}
use Rattle.std.proofs.Common.{sym, ◌∙◌, arith}
use Rattle.whole.proofs.Laws.Whole.{whole}
use Rattle.plan.specs.Limits.{most_allowance}
use Rattle.plan.specs.Plan.{Table}
use Rattle.plan.specs.Fit.{Fit}
use Rattle.plan.specs.Near.{Near}
use Rattle.plan.specs.Questions.{check, none, refusal, check_given}
use Rattle.rules.specs.Placement.{placed, Agree}
use Rattle.rules.specs.Rules.{Keeps}
use Rattle.rules.proofs.Laws.Agreement.{width_same, answer-same}
use Rattle.rules.proofs.Laws.Verdict.{kept_keeps, keeps_kept, fine-answer, answer-fine}
use Rattle.contours.specs.Sheet.{sheet}
use Rattle.least.proofs.Asked.{check-asks}
use Rattle.least.specs.Demanded.{CheckAsked}
use Rattle.least.proofs.Theorems.{sheet_keeps}
use Rattle.why_spec.specs.Measures.{extent, across, Demanded}
use Rattle.why_spec.specs.Links.{Reason}
use Rattle.why_spec.specs.Search.{because, reason}
use Rattle.why_spec.proofs.Theorems.{width_is, why-found, reason-same}
use Rattle.why_search.specs.Explains.{told, Chained, Explains, Explained}
use Rattle.why_search.specs.declared.Chain.{Chain}

-- the chain is THE reason of our sheet
abbrev pub Ours : Table → ℕ → List ℤ → Chain → Type 0
Ours t al ps c = (reason t al (across t) (sheet t al) ≡ told t al (placed ps) c.count c.cells) × Chained t al (placed ps) c.count c.cells c.rules

-- where no question of Check's refuses
module _ (t : Table) (al : ℕ) (ps : List ℤ) (z : refusal check (check_given t al ps) ≡ none) where
  asks : CheckAsked t al ps
  asks = (check-asks t al ps).0 z

  pub fit : Fit t
  fit = asks.table.fit

  pub near : Near ps (length t)
  near = record { room = asks.positions; x = λ c i. (asks.near_all c i).0; y = λ c i. (asks.near_all c i).1 }

  pub small : al ≤ most_allowance
  small = asks.allowance

  module _ (same : Agree t (placed ps) (sheet t al)) where
    pub keeps : Keeps t (placed ps) al
    keeps =
        let f = fit in
        let k = keeps_kept t (sheet t al) al (sheet_keeps t f.some_cell f.sound al) in
        let e = answer-same t (placed ps) (sheet t al) same f.some_cell f.sound al ∙ fine-answer t (sheet t al) al k in
        kept_keeps t (placed ps) al f.some_cell (answer-fine t (placed ps) al _ _ e).verdict_kept

    narrow : extent (across t) (placed ps) ≤ℤ extent (across t) (sheet t al)
    narrow = rw (width_is t (placed ps), width_is t (sheet t al)) (omega (whole, width_same t (placed ps) (sheet t al) same fit.some_cell))

    because-one : {r q : Reason} → because r ≡ because q → r ≡ q
    because-one e = cc

    -- the search finds THE reason of our sheet
    pub explained : (found : Bool) (count : ℕ) (cells rules : List ℕ) → Explains t al (placed ps) found count cells rules
        → (found ≡ true) × (reason t al (across t) (sheet t al) ≡ told t al (placed ps) count cells) × Chained t al (placed ps) count cells rules
    explained true count cells rules e =
        let f = fit in
        let (q, c) = e.yes refl in
        let r = because-one (sym (why-found t f.some_cell f.sound al (across t) Demanded.the_width (placed ps) keeps narrow) ∙ q) in
        (refl, sym (reason-same t f.some_cell f.sound al (across t) Demanded.the_width (placed ps) (sheet t al) (λ c i. (same c i).0)) ∙ r, c)
    explained false count cells rules e =
        let f = fit in
        absurd (let z : ◌≡◌ {A = ℕ} 0 1 = cc (e.no refl, why-found t f.some_cell f.sound al (across t) Demanded.the_width (placed ps) keeps narrow) in omega arith)

    pub there : (c : Option Chain) → Explained t al (placed ps) c → IsSome c
    there (Some c) x = refl
    there None x =
        let f = fit in
        cc (x, why-found t f.some_cell f.sound al (across t) Demanded.the_width (placed ps) keeps narrow)
