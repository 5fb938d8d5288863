-- "The rows of a sub-diagram below its top cell form a stretch of their own, and only that stretch is written while its sons are joined" (document 01, Drawing rules, last sentence).
-- That the code does so is the contract of `close`, which joins a child to its parent, for Layout's walk and for a sheet that is made step by step (E9). Assumes nothing.
use Rattle.std.specs.Prelude.{◌≡◌, List, ℕ, ◌+◌}
use Rattle.plan.specs.Lists.{At}
use Rattle.plan.specs.Plan.{Table, box_depth, children, row}
use Rattle.joining.specs.Joining.{memory_of}
use Rattle.walk.specs.Machine.{Chart, top, closed, OnlyStretch, Closing}
use Rattle.walk.specs.Walked.{Suits}
use Rattle.walk.proofs.Laws.Stretch as laws

-- THEOREM: when the child c of f is closed, every row above the stretch, and every row below it, is as it was;
pub only-stretch : (b : Chart) (level f c : ℕ) (xs ms : List ℕ) → Closing b level f c xs ms
    → (ys ns : List ℕ) → memory_of ys ns ≡ closed b level f c (memory_of xs ms) → OnlyStretch b f c xs ms ys
only-stretch = laws.only-stretch

-- and the stretch begins with the row below the box of f, whichever child is joined.
pub stretch-begins : (t : Table) (b : Chart) → Suits t b → (f i c : ℕ) → At (children t f) i c → top b c ≡ row t f + box_depth t f + 1
stretch-begins = laws.stretch-begins
