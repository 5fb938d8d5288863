-- Change request E5, what is promised: where the walk is at every turn, and which cells it opens, in which order. Definitions only; the theorems stand in Visits. Assumes nothing.
use Rattle.std.specs.Prelude.{◌≡◌, List, [], ◌∷◌, ◌++◌, ℕ, zero, suc, ◌≤◌, ◌<◌, get_or}
use Rattle.plan.specs.Lists.{At}
use Rattle.plan.specs.Plan.{Table, Is, children, Child}
use Rattle.joining.specs.Joining.{Memory, memory_of}
use Rattle.links.specs.Links.{link}
use Rattle.walk.specs.Machine.{Chart, State, step}
use Rattle.walk.specs.Turns.{stack_of, state_of}
use Rattle.walk.specs.Walked.{Suits}
use Rattle.walk.specs.Preorder.{preorder}

-- ---- the machine that the code is proved to run. A step of it opens one cell or closes one; a turn of the code is some openings, then one closing, so
-- what is said of every number of steps is said of every turn
-- the walk begins with the root open, and its first child next
abbrev pub begin : Chart → Memory → State
begin b m = record { stack = 0 ∷ []; next = link b.links 0 0; memory = m }

-- the state after n steps
unfoldable pub run : Chart → ℕ → State → State
run b zero st = st
run b (suc n) st = step b (run b n st)

-- the cell that a step opens, where it opens one
abbrev pub opening : ℕ → List ℕ
opening zero = []
opening (suc s) = suc s ∷ []

-- the cells opened in the first n steps, in order
unfoldable pub visits : Chart → ℕ → State → List ℕ
visits b zero st = []
visits b (suc n) st = visits b n st ++ opening (run b n st).next

-- and the root before them
abbrev pub opened : Chart → Memory → ℕ → List ℕ
opened b m n = 0 ∷ visits b n (begin b m)

-- the cell that a step closes, where it closes one: no child is next, and this is the one that it finishes (`step_at`)
abbrev pub closing : ℕ → List ℕ → List ℕ
closing (suc s) cs = []
closing zero [] = []
closing zero (c ∷ cs) = c ∷ []

-- the cells closed in the first n steps, in order
unfoldable pub closings : Chart → ℕ → State → List ℕ
closings b zero st = []
closings b (suc n) st = closings b n st ++ closing (run b n st).next (run b n st).stack

abbrev pub closed_by : Chart → Memory → ℕ → List ℕ
closed_by b m n = closings b n (begin b m)

-- the cell x is open after n steps: it was opened, and it is not yet closed
pub record StillOpen (b : Chart) (m : Memory) (n x : ℕ) : Type 0 where
  pub place : ℕ
  pub was_opened : At (opened b m n) place x
  pub not_closed : (i : ℕ) → At (closed_by b m n) i x → ⊥

-- ---- E5: "the numbers up to the count are the open cells from the root down, each the father of the next", after n steps from the memory m
-- (`Child t f c`: c is a cell of the table below the root, and f is its parent)
pub record OpenCells (t : Table) (b : Chart) (m : Memory) (n : ℕ) (cells : List ℕ) (count : ℕ) : Type 0 where
  pub few : count ≤ 32
  pub root : 0 < count → get_or cells 0 0 ≡ 0
  pub each : (i : ℕ) → suc i < count → Child t (get_or cells i 0) (get_or cells (suc i) 0)
  -- each of them is open, and every open cell is one of them
  pub only : (i : ℕ) → i < count → StillOpen b m n (get_or cells i 0)
  pub every : (x : ℕ) → StillOpen b m n x → (i : ℕ) × (i < count) × (get_or cells i 0 ≡ x)

-- ---- E5: "every cell is opened exactly once, brothers in order"
-- a number has one place at most
abbrev pub Once : List ℕ → Type 0
Once l = (i j x : ℕ) → At l i x → At l j x → i ≡ j

pub record EachOnce (t : Table) (l : List ℕ) : Type 0 where
  pub found : (c : ℕ) → Is t c → (i : ℕ) × At l i c
  pub once : Once l
  pub only : (i x : ℕ) → At l i x → Is t x

-- a child stands before each later sibling, whoever the parent f
abbrev pub InOrder : Table → List ℕ → Type 0
InOrder t l = (f i j p q a b : ℕ) → Is t f → At (children t f) i p → At (children t f) j q → i < j → At l a p → At l b q → a < b

-- ---- what the chain of the code is at every turn: it and the child to open next are the machine's after some steps from the memory m, and the numbers up to
-- the count are the open cells
pub record Visiting (b : Chart) (m : Memory) (cells : List ℕ) (count next : ℕ) (xs ms : List ℕ) : Type 0 where
  pub turns : ℕ
  pub there : state_of cells count next xs ms ≡ run b turns (begin b m)
  pub open_now : (t : Table) → Suits t b → OpenCells t b m turns cells count

-- ---- E5, in the contracts of `begin`, `descend` and `turn`
-- `begin` hands out where the walk begins, whatever the memory and the other columns
abbrev pub Begins : List ℕ → List ℕ → ℕ → ℕ → Type 0
Begins ls cells count next = (b : Chart) (xs ms : List ℕ) → b.links ≡ ls → Visiting b (memory_of xs ms) cells count next xs ms

-- the chain that `descend` is given is that of a walk, and so is the one that it hands back, with no child next
abbrev pub Descends : List ℕ → List ℕ → ℕ → ℕ → List ℕ → ℕ → Type 0
Descends ls cells count next cells' count' = (b : Chart) (m : Memory) (xs ms : List ℕ) → b.links ≡ ls → Visiting b m cells count next xs ms → Visiting b m cells' count' 0 xs ms

-- `turn` is given the chain of a walk, wherever that began,
pub record Underway (b : Chart) (cells : List ℕ) (count next : ℕ) (xs ms : List ℕ) : Type 0 where
  pub from : Memory
  pub visiting : Visiting b from cells count next xs ms

-- and hands back the chain of the same walk
abbrev pub Onward : Chart → (cells : List ℕ) (count next : ℕ) (xs ms cells' : List ℕ) (count' next' : ℕ) (xs' ms' : List ℕ) → Type 0
Onward b cells count next xs ms cells' count' next' xs' ms' = (m : Memory) → Visiting b m cells count next xs ms → Visiting b m cells' count' next' xs' ms'

-- ---- what the contract of `walk` says of its steps, from the memory m to m', for every table that the chart suits
pub record Visited (b : Chart) (m m' : Memory) : Type 0 where
  -- it is a run of the machine to where no cell is open
  pub turns : ℕ
  pub closed : (run b turns (begin b m)).stack ≡ []
  pub leaves : (run b turns (begin b m)).memory ≡ m'
  -- after every number of steps the numbers that show the stack are the open cells
  pub open_cells : (t : Table) → Suits t b → (n : ℕ) (cells : List ℕ) (count : ℕ) → stack_of cells count ≡ (run b n (begin b m)).stack → OpenCells t b m n cells count
  -- the cells in the order in which they are opened are the tree's preorder, each cell of the table exactly once, siblings in order
  pub in_order : (t : Table) → Suits t b → opened b m turns ≡ preorder t 0
  pub once : (t : Table) → Suits t b → EachOnce t (opened b m turns)
  pub siblings : (t : Table) → Suits t b → InOrder t (opened b m turns)
