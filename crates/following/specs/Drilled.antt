-- WHAT A DRILL ANSWERS (document 02, E12), and what it leaves in the list lent to it, on every input. Assumes nothing.
use Rattle.std.specs.Prelude.{◌≡◌, cond, List, ◌++◌, ℕ, length, drop, eqb, Result, Ok}
use Rattle.plan.specs.Plan.{Table}
use Rattle.plan.specs.Questions.{drill, refusal, drill_given, answered}
use Rattle.plan.specs.declared.Refusal.{Refusal}
use Rattle.moves.specs.Drill.{Outcome, finished, spent, wrong, full, Drill, drill_of}
use Rattle.following.specs.declared.Drilled.{Drilled}
use Rattle.following.specs.declared.Drilled.TheVariants.{Finished, Spent, Wrong, Full}

-- document 02's values of the answers: the outcome, "the bytes used, a wrong one included, and the number of records"
abbrev pub told_as : Outcome → (used records : ℕ) → Drilled
told_as finished u r = Finished u r
told_as spent u r = Spent u r
told_as wrong u r = Wrong u r
told_as full u r = Full u r

unfoldable pub drill_told : Drill → Drilled
drill_told d = told_as d.outcome d.used (length d.steps)

-- or the refusal
abbrev pub drilled_of : Table → (answers : List ℕ) → Refusal → Result Drilled Refusal
drilled_of t answers r = answered r (drill_told (drill_of t answers))

-- "the lent list has the recorded steps first and is unchanged beyond". Of a refusal: as it was
unfoldable pub list_after : Table → (answers : List ℕ) → Refusal → List ℕ → List ℕ
list_after t answers r xs = cond (eqb r.number 0) ((drill_of t answers).steps ++ drop (length (drill_of t answers).steps) xs) xs

-- a call of the drill: the answer, and the list before and after it
pub record Drills (t : Table) (answers : List ℕ) (xs xs' : List ℕ) (r : Result Drilled Refusal) : Type 0 where
  pub answer : r ≡ drilled_of t answers (refusal drill (drill_given t (length answers) (length xs)))
  pub list : xs' ≡ list_after t answers (refusal drill (drill_given t (length answers) (length xs))) xs

-- the outcome o is answered
pub record Tells (o : Outcome) (r : Result Drilled Refusal) : Type 0 where
  pub used : ℕ
  pub records : ℕ
  pub is : r ≡ Ok (told_as o used records)
