-- ONE STEP over scratches of their lengths: what the functions need and give. Nothing that a reader must believe stands here. Assumes nothing.
use Rattle.std.specs.Prelude.{◌≡◌, List, Bool, true, false, ℕ, ◌≤◌, length, replicate, ℤ, Option, None}
use Rattle.plan.specs.Limits.{scratch_size}
use Rattle.plan.specs.Plan.{Table}
use Rattle.contours.specs.Sheet.{sheet}
use Rattle.joining.specs.Joining.{Memory}
use Rattle.positions.specs.Written.{written}
use Rattle.finishing_cell.specs.Made.{made}
use Rattle.finishing_step.specs.Stepping.{stepped_at, finished_after, positions_after}

-- the end of a step
pub record Concluded (t : Table) (al : ℕ) (last : Bool) (xs ys : List ℕ) (ps qs : List ℤ) : Type 0 where
  pub yes : last ≡ true → (ys ≡ replicate scratch_size 0) × (qs ≡ written ps (sheet t al) (length t))
  pub no : last ≡ false → (ys ≡ xs) × (qs ≡ ps)

-- a step on scratches of 16,384 and 1,024 numbers: what it does where they hold what k steps made, and that "done" alters nothing
pub record Advances (t : Table) (al : ℕ) (m n : Memory) (ps qs : List ℤ) (r : Option ℕ) : Type 0 where
  pub answers : (k : ℕ) → k ≤ length t → m ≡ made t al k → r ≡ stepped_at t k
  pub memory : (k : ℕ) → k ≤ length t → m ≡ made t al k → n ≡ made t al (finished_after t k)
  pub positions : (k : ℕ) → k ≤ length t → m ≡ made t al k → qs ≡ positions_after t al k ps
  pub idle : r ≡ None → (n ≡ m) × (qs ≡ ps)
