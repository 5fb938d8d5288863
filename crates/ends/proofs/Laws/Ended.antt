-- What Ends' answer says. Assumes nothing.
use Rattle.std.specs.Prelude.{◌≡◌, List, ℕ, ◌<◌, length, ℤ}
use Rattle.std.proofs.Common.{sym, ◌∙◌, ap, subst, arith}
use Rattle.whole.proofs.Laws.Says.{both, says_lt}
use Rattle.plan.specs.declared.Columns.{Columns}
use Rattle.plan.specs.declared.Refusal.{Refusal}
use Rattle.plan.specs.Fit.{Fit}
use Rattle.plan.specs.Near.{Near}
use Rattle.plan.proofs.Laws.Near.{near-accepted}
use Rattle.plan.specs.Columns.{table_of}
use Rattle.plan.proofs.Laws.Tables.{length-is}
use Rattle.plan.specs.Questions.{refusal, ends, ends_given}
use Rattle.plan.proofs.Laws.Questions.{asked_yes, both-none}
use Rattle.plan.proofs.Laws.Calls.{ends-refusal}
use Rattle.plan.proofs.Laws.Fit.{lent_fit}

-- what holds where no question refuses
pub accepted : (t : Columns) (ps : List ℤ) (c : ℕ) → (refusal ends (ends_given (table_of t) ps c)).number ≡ 0
    → Fit (table_of t) × Near ps t.count × (c < t.count) × (0 < c)
accepted t ps c e =
    let (lent, r) = both-none _ _ (ap (λ (x : Refusal). x.number) (sym (ends-refusal (table_of t) ps c)) ∙ e) in
    let (near, named) = both-none _ _ r in
    let h = lent_fit (table_of t) (length ps) lent in
    let (low, some) = (both (says_lt c (length (table_of t))) (says_lt 0 c)).read (asked_yes 15 _ 0 named) in
    (h.fit, subst (λ (n : ℕ). Near ps n) (length-is t) (near-accepted ps (length (table_of t)) h.room near), omega (arith, length-is t), some)
