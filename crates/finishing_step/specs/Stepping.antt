-- WHAT A STEP ANSWERS, and what it leaves in the buffers lent to it (document 02, E9). Assumes nothing.
use Rattle.std.specs.Prelude.{◌≡◌, cond, List, ◌++◌, ℕ, suc, ◌≤◌, length, get_or, drop, eqb, ltb, ℤ, Option, Some, None, Result, Ok, Err}
use Rattle.plan.specs.Limits.{scratch_size, second_size}
use Rattle.plan.specs.Plan.{Table}
use Rattle.contours.specs.Sheet.{sheet}
use Rattle.positions.specs.Written.{written}
use Rattle.finishing_order.specs.Postorder.{postorder}
use Rattle.finishing_cell.specs.Made.{made}
use Rattle.plan.specs.declared.Refusal.{Refusal}
use Rattle.finishing_asks.specs.Asks.{step_no}

-- the scratches hold what k steps from a start on this table and allowance made (`made`), of at most as many as there are cells; their later numbers are anything
pub record Holds (t : Table) (al k : ℕ) (xs ms : List ℕ) : Type 0 where
  pub few : k ≤ length t
  pub scratch : xs ≡ (made t al k).rows ++ drop scratch_size xs
  pub second : ms ≡ (made t al k).marks ++ drop second_size ms

-- ---- step number k: cell number k of the order of finishing; after the last "done", and nothing changes
unfoldable pub stepped_at : Table → (k : ℕ) → Option ℕ
stepped_at t k = cond (ltb k (length t)) (Some (get_or (postorder t) k 0)) None

-- how many cells are finished after it
unfoldable pub finished_after : Table → (k : ℕ) → ℕ
finished_after t k = cond (ltb k (length t)) (suc k) k

-- the last step also writes the positions of the complete sheet
unfoldable pub positions_after : Table → (allowance k : ℕ) → List ℤ → List ℤ
positions_after t al k ps = cond (eqb (suc k) (length t)) (written ps (sheet t al) (length t)) ps

pub record StepAt (t : Table) (al k : ℕ) (xs xs' ms ms' : List ℕ) (ps ps' : List ℤ) (r : Result (Option ℕ) Refusal) : Type 0 where
  pub answers : r ≡ Ok (stepped_at t k)
  pub scratch : xs' ≡ (made t al (finished_after t k)).rows ++ drop scratch_size xs
  pub second : ms' ≡ (made t al (finished_after t k)).marks ++ drop second_size ms
  pub positions : ps' ≡ positions_after t al k ps

-- nothing that was lent is altered
pub record Unaltered (xs xs' ms ms' : List ℕ) (ps ps' : List ℤ) : Type 0 where
  pub scratch : xs' ≡ xs
  pub second : ms' ≡ ms
  pub positions : ps' ≡ ps

-- a call of Step: the two scratches and the positions before and after it
pub record Steps (t : Table) (al : ℕ) (xs xs' ms ms' : List ℕ) (ps ps' : List ℤ) (r : Result (Option ℕ) Refusal) : Type 0 where
  -- a refusal, whatever the scratches hold
  pub refuses : ¬ ((step_no t al (length xs) (length ms) (length ps)).number ≡ 0)
      → (r ≡ Err (step_no t al (length xs) (length ms) (length ps))) × Unaltered xs xs' ms ms' ps ps'
  -- no refusal, and a sheet that is being made
  pub steps : (step_no t al (length xs) (length ms) (length ps)).number ≡ 0 → (k : ℕ) → Holds t al k xs ms → StepAt t al k xs xs' ms ms' ps ps' r
  -- no refusal, and anything: it answers a cell or "done", and "done" alters nothing
  pub says : (step_no t al (length xs) (length ms) (length ps)).number ≡ 0 → (e : Refusal) → ¬ (r ≡ Err e)
  pub idle : r ≡ Ok None → Unaltered xs xs' ms ms' ps ps'
