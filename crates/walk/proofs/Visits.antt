-- CHANGE REQUEST E5, the promise: of a table that no question refuses (`Fit`), walked along its links, from any memory. What the words mean is in Opened and
-- Preorder, the machine in Machine; that the code runs this machine is the contract of `walk` (`Visited`), and of its own chain those of `begin` and `turn` (`Visiting`). Assumes nothing.
use Rattle.std.specs.Prelude.{◌≡◌, List, [], ◌∷◌, ℕ}
use Rattle.plan.specs.Plan.{Table, children}
use Rattle.plan.specs.Fit.{Fit}
use Rattle.joining.specs.Joining.{Memory}
use Rattle.links.specs.Links.{Links}
use Rattle.walk.specs.Machine.{Chart}
use Rattle.walk.specs.Turns.{stack_of}
use Rattle.walk.specs.Preorder.{in_turn, preorder}
use Rattle.walk.specs.Opened.{begin, run, opened, OpenCells, EachOnce, InOrder}
use Rattle.walk.proofs.Laws.Visits as laws

-- the preorder of a cell is the cell, then the preorders of its children, one after another: how deep the definition looks does not matter
pub preorder-is : (t : Table) (fit : Fit t) (c : ℕ) → preorder t c ≡ c ∷ in_turn (preorder t) (children t c)
preorder-is = laws.preorder-is

module _ (t : Table) (fit : Fit t) (b : Chart) (links : Links t b.links) (m : Memory) where
  -- after any number of steps, the numbers of an array up to a count that show the stack are exactly the cells opened and not yet closed, from the root
  -- down, each the parent of the next, 32 at most
  pub open_cells : (n : ℕ) (cells : List ℕ) (count : ℕ) → stack_of cells count ≡ (run b n (begin b m)).stack → OpenCells t b m n cells count
  open_cells = laws.open_cells t fit b links m

  -- the walk ends: after some number of steps no cell is open
  pub ends : (n : ℕ) × ((run b n (begin b m)).stack ≡ [])
  ends = (laws.all_turns t fit b links m, laws.ends-closed t fit b links m)

  -- whenever none is open any more, the cells in the order in which they were opened are the tree's preorder,
  pub opened-in_order : (n : ℕ) → (run b n (begin b m)).stack ≡ [] → opened b m n ≡ preorder t 0
  opened-in_order = laws.opened-in_order t fit b links m

  -- every cell of the table was opened exactly once, and nothing else,
  pub opened-once : (n : ℕ) → (run b n (begin b m)).stack ≡ [] → EachOnce t (opened b m n)
  opened-once = laws.opened-once t fit b links m

  -- and every child before each later sibling
  pub siblings_in_order : (n : ℕ) → (run b n (begin b m)).stack ≡ [] → InOrder t (opened b m n)
  siblings_in_order = laws.siblings_in_order t fit b links m
