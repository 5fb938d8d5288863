-- ONE CELL of a sheet that is being made is finished: what the functions need and give. Nothing that a reader must believe stands here. Assumes nothing.
use Rattle.std.specs.Prelude.{◌≡◌, List, Result, Ok, Err, ℕ, zero, suc, ◌<◌, length, get_or, replicate}
use Rattle.plan.specs.Limits.{scratch_size, second_size}
use Rattle.plan.specs.Plan.{Table}
use Rattle.plan.specs.Fit.{Fit}
use Rattle.joining.specs.Joining.{Memory}
use Rattle.finishing_order.specs.Postorder.{postorder}
use Rattle.finishing_cell.specs.Made.{worked, made}

-- a table that keeps the questions, and scratches of their lengths
pub record Steppable (t : Table) (s m : ℕ) : Type 0 where
  pub fit : Fit t
  pub scratch : s ≡ scratch_size
  pub marks : m ≡ second_size

-- the parent of a cell, and the root for itself
unfoldable pub up_of : List ℕ → ℕ → ℕ
up_of ps zero = 0
up_of ps (suc p) = get_or ps (suc p) 0

-- step number k: the cell at k, which is finished, or could not be; where the scratches are those after k steps, it is finished
pub record Took (t : Table) (al k : ℕ) (m n : Memory) (r : Result ℕ ℕ) : Type 0 where
  pub told : (c : ℕ) → r ≡ Ok c → (c ≡ get_or (postorder t) k 0) × (c < length t)
  pub waits : (c : ℕ) → r ≡ Err c → (c ≡ get_or (postorder t) k 0) × (c < length t)
  pub on : m ≡ made t al k → (r ≡ Ok (get_or (postorder t) k 0)) × (n ≡ worked t al (suc k))
  pub no : (c : ℕ) → r ≡ Err c → n ≡ m
  pub clear : suc k ≡ length t → (worked t al (suc k)).rows ≡ replicate scratch_size 0
