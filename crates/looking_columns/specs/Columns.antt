-- What is asked of the columns, and how their numbers are set out, cell after cell. Assumes nothing.
use Rattle.std.specs.Prelude.{List, [], ◌≡◌, ◌⊎◌, ℕ, ◌+◌, ◌*◌, ◌^◌, ◌≤◌, ◌<◌, length, get_or}
use Rattle.plan.specs.Limits.{farthest, most_cells}
use Rattle.plan.specs.Plan.{Table, Child}
use Rattle.spans.specs.Spans.{at}

-- how many numbers the rules read of a cell
abbrev pub sight : ℕ
sight = 13

-- the columns' first n numbers stand from number k of their cells on, and the other numbers are as they were
pub record Scattered (columns : List (List ℕ)) (n k : ℕ) (xs xs' : List ℕ) : Type 0 where
  pub long : length xs' ≡ most_cells * sight
  pub here : (j c : ℕ) → j < length columns → c < n → get_or xs' (sight * c + (k + j)) 0 ≡ get_or (get_or columns j []) c 0
  pub off : (j c : ℕ) → j < sight → (j < k) ⊎ (k + length columns ≤ j) → get_or xs' (sight * c + j) 0 ≡ get_or xs (sight * c + j) 0

-- a column of n numbers that can be added to
pub record Short (xs : List ℕ) (n : ℕ) : Type 0 where
  pub short : (c : ℕ) → c < n → at xs c < 2 ^ 30

-- the rows that S1 asks
pub record Due (t : Table) (base due : ℕ → ℕ) : Type 0 where
  pub root : due 0 ≡ farthest
  pub each : (c f : ℕ) → Child t f c → due c ≡ base f + 1
