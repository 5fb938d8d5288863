-- Spans: numbers for each cell by which "at or below", "earlier" and "right beside" are told at once. The span of a cell, from `first` to
-- before `end`, holds those of its children, one right after the other. Assumes nothing.
use Rattle.std.specs.Prelude.{◌≡◌, List, ℕ, suc, ◌+◌, ◌≤◌, ◌<◌, length, get_or, T}
use Rattle.plan.specs.Lists.{At, total}
use Rattle.plan.specs.Plan.{Table, Is, children, within}

-- number c of a column
abbrev pub at : List ℕ → ℕ → ℕ
at xs c = get_or xs c 0

module _ (t : Table) where
  pub record Counted (nth many : ℕ → ℕ) : Type 0 where
    pub root : nth 0 ≡ 0
    pub placed : (f i s : ℕ) → At (children t f) i s → nth s ≡ i + 1
    pub all : (f : ℕ) → Is t f → many f ≡ length (children t f)

-- the cell with the number k
pub record Numbered (t : Table) (first : ℕ → ℕ) (k : ℕ) : Type 0 where
  pub cell : ℕ
  pub is : Is t cell
  pub so : first cell ≡ k

pub record Spans (t : Table) (first end from to : ℕ → ℕ) : Type 0 where
  pub some : (c : ℕ) → Is t c → first c < end c
  pub few : (c : ℕ) → Is t c → end c ≤ length t
  pub under : (c i s : ℕ) → At (children t c) i s → (first c < first s) × (end s ≤ end c)
  pub beside : (c i u v : ℕ) → At (children t c) i u → At (children t c) (suc i) v → end u ≡ first v
  -- where the span of the sibling right before begins, and where that of the sibling right after ends; the cell's own first and end where there is none
  pub elder : (c i u v : ℕ) → At (children t c) i u → At (children t c) (suc i) v → from v ≡ first u
  pub eldest : (c v : ℕ) → At (children t c) 0 v → from v ≡ first v
  pub younger : (c i u v : ℕ) → At (children t c) i u → At (children t c) (suc i) v → to u ≡ end v
  pub youngest : (c i u : ℕ) → At (children t c) i u → length (children t c) ≡ suc i → to u ≡ end u
  -- each number of the root's span is a cell's
  pub hit : (k : ℕ) → k < end 0 → Numbered t first k
  pub root_first : first 0 ≡ 0
  pub root_from : from 0 ≡ first 0
  pub root_to : to 0 ≡ end 0

module _ (t : Table) (base : ℕ → ℕ) where
  -- a cell at or below c whose number is v
  pub record Reaches (c v : ℕ) : Type 0 where
    pub cell : ℕ
    pub is : Is t cell
    pub under : T (within t c cell)
    pub so : v ≡ base cell

  pub record Deepest (bottom : ℕ → ℕ) : Type 0 where
    pub all : (c a : ℕ) → Is t a → T (within t c a) → base a ≤ bottom c
    pub one : (c : ℕ) → Is t c → Reaches c (bottom c)

module _ (t : Table) where
  -- what holds of the sizes in the end
  pub record Sized (size : ℕ → ℕ) : Type 0 where
    pub few : (c : ℕ) → Is t c → size c ≤ length t
    pub parts : (c : ℕ) → Is t c → size c ≡ suc (total size (children t c))
