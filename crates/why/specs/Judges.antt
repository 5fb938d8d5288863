-- WHAT IS ANSWERED OF ANYONE'S PLACEMENT, on every input: Check's own verdict or refusal; where it keeps the rules, the reason for its width, or that there is none, so that it could be narrower.
-- Assumes nothing.
use Rattle.std.specs.Prelude.{◌≡◌, List, ℕ, ℤ, Option, Some, None, Result, Ok, Err}
use Rattle.plan.specs.Plan.{Table}
use Rattle.plan.specs.declared.Measures.{Measures}
use Rattle.plan.specs.declared.Refusal.{Refusal}
use Rattle.rules.specs.Placement.{placed}
use Rattle.checker.specs.Checked.{checked_of}
use Rattle.checker.specs.declared.Verdict.{Verdict}
use Rattle.checker.specs.declared.Verdict.TheVariants as verdict
use Rattle.why_search.specs.Explains.{Explained}
use Rattle.why_search.specs.declared.Chain.{Chain}
use Rattle.why.specs.declared.Judged.{Judged}
use Rattle.why.specs.declared.Judged.TheVariants.{Kept, Broken}

-- Check's part of an answer
abbrev pub checked : Result Judged Refusal → Result Verdict Refusal
checked (Ok (Kept m c)) = Ok (verdict.Kept m)
checked (Ok (Broken b)) = Ok (verdict.Broken b)
checked (Err r) = Err r

-- how many links are told
abbrev pub links : Result Judged Refusal → ℕ
links (Ok (Kept m (Some c))) = c.count
links (Ok (Kept m None)) = 0
links (Ok (Broken b)) = 0
links (Err r) = 0

pub record Judges (t : Table) (al : ℕ) (ps : List ℤ) (r : Result Judged Refusal) : Type 0 where
  pub checks : checked r ≡ checked_of t ps al
  pub kept : (m : Measures) (c : Option Chain) → r ≡ Ok (Kept m c) → Explained t al (placed ps) c
  pub other : ((m : Measures) → ¬ (checked r ≡ Ok (verdict.Kept m))) → links r ≡ 0
