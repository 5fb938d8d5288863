-- THE STATE of a sheet that is being made, after k steps (document 02, E9): both scratches, outright. It is carried from one call to the next and read by nobody else: what comes of it, whatever
-- it is, is said by the theorems over `After` (demands Calls), so a reader need not believe what stands here. Assumes nothing.
use Rattle.std.specs.Prelude.{List, [], ◌∷◌, ℕ, zero, suc, ◌*◌, length, set, take, replicate}
use Rattle.plan.specs.Limits.{scratch_size, second_size}
use Rattle.plan.specs.Lists.{index}
use Rattle.plan.specs.Plan.{Table, box_width, box_depth, parent, children, place, level, row}
use Rattle.joining.specs.Joining.{Memory, memory_of, joined_rows, finished}
use Rattle.walk.specs.Machine.{stretch, with_stretch, root_closed}
use Rattle.finishing_order.specs.Postorder.{postorder}
use Rattle.finishing_guard.specs.Guard.{count_at}

-- the cell c is finished: its box is drawn over its joined children, its marks are made, and it joins its parent, in the stretch below the parent's box. The root has none to join
unfoldable pub finishes : Table → (allowance : ℕ) → ℕ → Memory → Memory
finishes t al zero m = root_closed m (box_depth t 0) (box_width t 0)
finishes t al (suc p) m =
    let c = suc p in
    let f = parent t c in
    let n = joined_rows m.marks f c (box_depth t c) in
    let j = finished (memory_of (stretch m.rows (row t c) n) m.marks) (2 * level t f) f c (box_depth t c) (box_width t c) (index c (children t f)) (place t f (length (children t f))) al in
    memory_of (with_stretch m.rows (row t c) n j.rows) j.marks

-- the cells of a list, one after another
unfoldable pub work : Table → (allowance : ℕ) → List ℕ → Memory → Memory
work t al [] m = m
work t al (c ∷ cs) m = work t al cs (finishes t al c m)

-- both scratches cleared
unfoldable pub cleared : Memory
cleared = memory_of (replicate scratch_size 0) (replicate second_size 0)

-- the rows and the marks when the first k cells of the order are finished
unfoldable pub worked : Table → (allowance : ℕ) → ℕ → Memory
worked t al k = work t al (take k (postorder t)) cleared

-- after k steps
unfoldable pub made : Table → (allowance : ℕ) → ℕ → Memory
made t al k = memory_of (set (worked t al k).rows count_at k) (worked t al k).marks
