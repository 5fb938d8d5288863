-- The links of a table: how the walk finds a cell's children. The link builder alone knows the order of siblings. Assumes nothing.
use Rattle.std.specs.Prelude.{◌≡◌, List, ℕ, suc, ◌+◌, ◌*◌, ◌≤◌, length, get_or}
use Rattle.plan.specs.Limits.{most_cells}
use Rattle.plan.specs.Lists.{At}
use Rattle.plan.specs.Plan.{Table, Is, children, place}

-- link k of the cell c. Four for each cell: its first child, its next sibling (0: none, for the root is nobody's child), its place among its
-- siblings, the place of its appointed child
abbrev pub link : List ℕ → ℕ → ℕ → ℕ
link ls c k = get_or ls (4 * c + k) 0

pub record Links (t : Table) (ls : List ℕ) : Type 0 where
  pub size : 4 * most_cells ≤ length ls
  pub first : (c : ℕ) → Is t c → link ls c 0 ≡ get_or (children t c) 0 0
  pub next : (f i s : ℕ) → At (children t f) i s → link ls s 1 ≡ get_or (children t f) (suc i) 0
  pub place_of : (f i s : ℕ) → At (children t f) i s → link ls s 2 ≡ i
  pub appointed_of : (c : ℕ) → Is t c → link ls c 3 ≡ place t c (length (children t c))
