-- WHAT A START ANSWERS, and what it leaves in the buffers lent to it (document 02, E9). Assumes nothing.
use Rattle.std.specs.Prelude.{◌≡◌, cond, List, ◌++◌, ℕ, length, drop, replicate, eqb, Result, ⊤}
use Rattle.plan.specs.Limits.{scratch_size, second_size}
use Rattle.plan.specs.Plan.{Table}
use Rattle.plan.specs.declared.Refusal.{Refusal}
use Rattle.plan.specs.Questions.{passed}
use Rattle.finishing_asks.specs.Asks.{start_no}

-- a start: "a start clears the scratch and a second one"
abbrev pub started_of : Refusal → Result ⊤ Refusal
started_of r = passed r

-- a lent scratch after it: its first numbers are cleared, the later ones as they were; refused, all as they were
unfoldable pub started_as : Refusal → (size : ℕ) → List ℕ → List ℕ
started_as r n xs = cond (eqb r.number 0) (replicate n 0 ++ drop n xs) xs

-- a call of Start: the two scratches before and after it
pub record Starts (t : Table) (al : ℕ) (xs xs' ms ms' : List ℕ) (r : Result ⊤ Refusal) : Type 0 where
  pub answers : r ≡ started_of (start_no t al (length xs) (length ms))
  pub scratch : xs' ≡ started_as (start_no t al (length xs) (length ms)) scratch_size xs
  pub second : ms' ≡ started_as (start_no t al (length xs) (length ms)) second_size ms
