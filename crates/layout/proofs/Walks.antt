-- CHANGE REQUEST E5, of a table that Layout does not refuse: where its walk is at every turn, and the order in which the cells are opened. What the words mean
-- is in crate walk (Opened, Preorder, Machine). That Layout's own columns suit the table, so that the same holds of them, is in the contract of
-- `marks_of` (crate marks, `Toured`). Assumes nothing.
use Rattle.std.specs.Prelude.{◌≡◌, List, [], ℕ}
use Rattle.plan.specs.Plan.{Table}
use Rattle.plan.specs.Questions.{layout, none, refusal, layout_given}
use Rattle.joining.specs.Joining.{Memory}
use Rattle.walk.specs.Machine.{Chart}
use Rattle.walk.specs.Turns.{stack_of}
use Rattle.walk.specs.Preorder.{preorder}
use Rattle.walk.specs.Opened.{begin, run, opened, OpenCells, EachOnce, InOrder}
use Rattle.layout.specs.TableChart.{chart_of}
use Rattle.layout.proofs.Laws.Walks as laws

-- THEOREMS: of a table that no question of Layout refuses, whatever the memory
module _ (t : Table) (al s p : ℕ) (unrefused : refusal layout (layout_given t al s p) ≡ none) (m : Memory) where
  abbrev b : Chart
  b = chart_of t al

  -- at every turn the numbers up to the count are exactly the open cells, from the root down, each the parent of the next, at most 32
  pub open_cells : (n : ℕ) (cells : List ℕ) (count : ℕ) → stack_of cells count ≡ (run b n (begin b m)).stack → OpenCells t b m n cells count
  open_cells = laws.open_cells t al s p unrefused m

  -- the walk ends, and then every cell was opened exactly once, in preorder, siblings in order
  pub ends : (n : ℕ) × ((run b n (begin b m)).stack ≡ [])
  ends = laws.ends t al s p unrefused m

  pub opened-once : (n : ℕ) → (run b n (begin b m)).stack ≡ [] → (opened b m n ≡ preorder t 0) × EachOnce t (opened b m n) × InOrder t (opened b m n)
  opened-once = laws.opened-once t al s p unrefused m
