-- Laws of the definitions in specs/Stripped.antt: for the code, and what a call gives. Assumes nothing.
use Rattle.std.specs.Prelude.{◌≡◌, List, ℕ, length, ℤ, Result, Ok, Err, ⊤, IsErrAnd}
use Rattle.std.proofs.Common.{sym, ◌∙◌, ap, subst}
use Rattle.plan.specs.declared.Columns.{Columns}
use Rattle.plan.specs.declared.Refusal.{Refusal}
use Rattle.plan.specs.Fit.{Fit}
use Rattle.plan.specs.Near.{Near}
use Rattle.plan.proofs.Laws.Near.{near-accepted}
use Rattle.plan.specs.Plan.{Table}
use Rattle.plan.specs.Columns.{table_of}
use Rattle.plan.proofs.Laws.Tables.{length-is}
use Rattle.plan.specs.Questions.{strip, refusal, strip_given, passed}
use Rattle.plan.proofs.Laws.Questions.{both-none}
use Rattle.plan.proofs.Laws.Calls.{strip-refusal}
use Rattle.plan.proofs.Laws.Fit.{lent_fit}
use Rattle.rules.specs.Placement.{placed}
use Rattle.raster.specs.Strip.{strip_of}
use Rattle.plan.proofs.Laws.Answered.{answers_err}
use Rattle.strips.specs.Stripped.{bytes_after, Strips}

-- what holds where no question refuses
pub accepted : (t : Columns) (ps : List ℤ) → (refusal strip (strip_given (table_of t) ps)).number ≡ 0 → Fit (table_of t) × Near ps t.count
accepted t ps z =
    let (lent, near) = both-none _ _ (ap (λ (x : Refusal). x.number) (sym (strip-refusal (table_of t) ps)) ∙ z) in
    let h = lent_fit (table_of t) (length ps) lent in
    (h.fit, subst (λ (n : ℕ). Near ps n) (length-is t) (near-accepted ps (length (table_of t)) h.room near))

module _ (t : Table) (ps : List ℤ) (row first : ℕ) where
  pub refused_leaves : (bs : List ℕ) (e : Refusal) (y : Result ⊤ Refusal) → Err e ≡ passed (refusal strip (strip_given t ps)) → IsErrAnd y (λ d. d ≡ e) → Strips t ps row first bs bs y
  unfolding bytes_after
  refused_leaves bs e y h p = record { answers = q ∙ h; bytes = rw q }
    where
      q : y ≡ Err e
      q = answers_err tt _ e y h p ∙ sym h

  pub drawn_leaves : (bs cs : List ℕ) (u : ⊤) → Ok u ≡ passed (refusal strip (strip_given t ps)) → cs ≡ strip_of t (placed ps) row first (length bs) → Strips t ps row first bs cs (Ok u)
  unfolding bytes_after
  drawn_leaves bs cs u h d = record { answers = h; bytes = d }
