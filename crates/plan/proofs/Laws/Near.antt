-- Laws of the definitions in specs/Near.antt. Assumes nothing.
use Rattle.std.specs.Prelude.{◌≡◌, List, ℕ, ◌+◌, ◌*◌, ◌≤◌, ◌<◌, length, get_or, ℤ, pos}
use Rattle.whole.proofs.Laws.Says.{both}
use Rattle.whole.specs.Range.{InRange}
use Rattle.whole.proofs.Laws.Range.{says_within}
use Rattle.plan.specs.Limits.{farthest}
use Rattle.plan.specs.Questions.{near}
use Rattle.plan.proofs.Laws.Questions.{asked_yes, each_none}
use Rattle.plan.specs.Steps.{near_at, near_refusal}
use Rattle.plan.specs.Near.{Near}

pub near-accepted : (ps : List ℤ) (n : ℕ) → 2 * n ≤ length ps → (near_refusal ps n).number ≡ 0 → Near ps n
unfolding near_refusal near
near-accepted ps n room e = record { room = room; x = λ c i. (at c i).0; y = λ c i. (at c i).1 }
  where
    at : (c : ℕ) → c < n → InRange farthest (get_or ps (2 * c) (pos 0)) × InRange farthest (get_or ps (2 * c + 1) (pos 0))
    at c i = (both (says_within farthest (get_or ps (2 * c) (pos 0))) (says_within farthest (get_or ps (2 * c + 1) (pos 0)))).read (asked_yes 14 _ c (each_none (near_at ps) n e c i))
