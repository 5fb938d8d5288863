-- THE QUESTIONS that Start, Step and Reach put, by the one sequence (document 02, E9). Assumes nothing.
use Rattle.std.specs.Prelude.{List, ℕ}
use Rattle.plan.specs.Plan.{Table}
use Rattle.plan.specs.Questions.{start, step, reach, refusal, start_given, step_given, reach_given}
use Rattle.plan.specs.declared.Refusal.{Refusal}

-- the refusals of the three calls: of s and m numbers in the two scratches and p in the positions
abbrev pub start_no : Table → (allowance s m : ℕ) → Refusal
start_no t al s m = refusal start (start_given t al s m)

abbrev pub step_no : Table → (allowance s m p : ℕ) → Refusal
step_no t al s m p = refusal step (step_given t al s m p)

abbrev pub reach_no : Table → (allowance s m : ℕ) → (finished : List ℕ) → (asked-for : ℕ) → Refusal
reach_no t al s m finished c = refusal reach (reach_given t al s m finished c)
