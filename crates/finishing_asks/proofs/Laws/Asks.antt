-- What holds where the questions of Start refuse nothing. Nothing that a reader must believe stands here. Assumes nothing.
use Rattle.std.specs.Prelude.{◌≡◌, List, ℕ, ◌≤◌, length, leb}
use Rattle.std.proofs.Common.{◌∙◌, ap, sym, leb→le}
use Rattle.plan.specs.Limits.{scratch_size, second_size}
use Rattle.plan.specs.Plan.{Table}
use Rattle.plan.specs.Fit.{Fit}
use Rattle.plan.proofs.Laws.Fit.{counted_fit}
use Rattle.plan.specs.Questions.{asked}
use Rattle.plan.specs.Steps.{counted_refusal}
use Rattle.plan.proofs.Laws.Questions.{both-none, asked_yes}
use Rattle.plan.proofs.Laws.Calls.{start-refusal}
use Rattle.plan.specs.declared.Refusal.{Refusal}
use Rattle.finishing_asks.specs.Asks.{start_no}

pub zero_of : {r s : Refusal} → r ≡ s → r.number ≡ 0 → s.number ≡ 0
zero_of e z = ap (λ (x : Refusal). x.number) (sym e) ∙ z

module _ (t : Table) (al : ℕ) (xs ms : List ℕ) where
  pub start-asks : (start_no t al (length xs) (length ms)).number ≡ 0 → Fit t × (scratch_size ≤ length xs) × (second_size ≤ length ms)
  start-asks z =
      let y = zero_of (start-refusal t al (length xs) (length ms)) z in
      let (two, rest) = both-none (asked 1 (leb second_size (length ms)) 0) _ y in
      let (one, left) = both-none (asked 1 (leb scratch_size (length xs)) 0) _ rest in
      (counted_fit t (both-none (counted_refusal t) _ left).0, leb→le scratch_size (length xs) (asked_yes 0 _ 0 one), leb→le second_size (length ms) (asked_yes 0 _ 0 two))
