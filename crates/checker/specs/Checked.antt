-- Check's answer: document 01's numbers and values for each case. Assumes nothing.
use Rattle.std.specs.Prelude.{List, ℕ, ℤ, Result}
use Rattle.whole.specs.Whole.{plus}
use Rattle.plan.specs.Plan.{Table}
use Rattle.plan.specs.Questions.{refusal, check, check_given}
use Rattle.plan.specs.Questions as asks
use Rattle.plan.specs.declared.Refusal.{Refusal}
use Rattle.rules.specs.Placement.{placed}
use Rattle.rules.specs.Verdict.{Answer, fine, faulty, answer}
use Rattle.checker.specs.declared.Verdict.{Verdict}
use Rattle.checker.specs.declared.Verdict.TheVariants.{Kept, Broken}

-- "kept" with width and rows, which are not negative where no question refuses (CheckedLaws); "broken" with rule, a and b
unfoldable pub answered : Answer → Verdict
answered (fine w r) = Kept (record { width = plus w; rows = plus r })
answered (faulty r a b) = Broken (record { rule = r; a = a; b = b })

unfoldable pub checked_of : Table → List ℤ → (allowance : ℕ) → Result Verdict Refusal
checked_of t ps al = asks.answered (refusal check (check_given t al ps)) (answered (answer t (placed ps) al))
