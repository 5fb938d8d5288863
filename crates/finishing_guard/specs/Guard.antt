-- THE GUARD of a step over any content of the scratches: what the step reads can be added, and its rows are there. What the functions that finish one cell need and give.
-- Nothing that a reader must believe stands here. Assumes nothing.
use Rattle.std.specs.Prelude.{◌≡◌, ◌≢◌, List, Bool, true, false, ℕ, zero, suc, ◌+◌, ◌*◌, ◌≤◌, ◌<◌, length, set}
use Rattle.plan.specs.Limits.{scratch_size, second_size, most_cells, last_row, farthest}
use Rattle.rows.specs.Rows.{Low}
use Rattle.joining.specs.Joining.{Memory, memory_of, mark, joined_rows}
use Rattle.walk.specs.Machine.{Chart, wide, deep, top, stretch, closed, root_closed}

-- of the cell c of depth d, with its box from row y on: its joined rows are there, and its middle is not negative
pub record OwnRows (ms : List ℕ) (c d y : ℕ) : Type 0 where
  pub behind : mark ms c 2 ≤ mark ms c 3
  pub fit : y + (d + 1 + mark ms c 0) ≤ last_row + 1

-- of its parent f: the same, and its marks are small
pub record TheirRows (ms : List ℕ) (f y : ℕ) : Type 0 where
  pub fit : y + mark ms f 0 ≤ last_row + 1
  pub edge : mark ms f 1 ≤ farthest
  pub past : mark ms f 2 ≤ farthest
  pub far : mark ms f 3 ≤ farthest

-- of both, and of every number of the rows that c joins
pub record Guarded (xs ms : List ℕ) (c f d y : ℕ) : Type 0 where
  pub own : OwnRows ms c d y
  pub theirs : TheirRows ms f y
  pub low : Low (stretch xs y (joined_rows ms f c d))

abbrev pub Guards : (xs ms : List ℕ) (c f d y : ℕ) → Type 0
Guards xs ms zero f d y = OwnRows ms 0 d 0
Guards xs ms (suc p) f d y = Guarded xs ms (suc p) f d y

-- an answer tells whether P holds
pub record Tells (r : Bool) (P : Type 0) : Type 0 where
  pub yes : r ≡ true → P
  pub no : r ≡ false → P → ⊥

-- ---- one cell
-- what holds of the table and of the lengths, whatever the scratches hold
pub record Static (b : Chart) (level f c : ℕ) (xs ms : List ℕ) : Type 0 where
  pub links : 4 * most_cells ≤ length b.links
  pub widths : most_cells ≤ length b.widths
  pub depths : most_cells ≤ length b.depths
  pub tops : most_cells ≤ length b.tops
  pub small : c < most_cells
  pub smallf : f < most_cells
  pub shallow : level ≤ 30
  pub other : 1 ≤ c → f ≢ c
  pub narrow : wide b c ≤ farthest
  pub fits : top b c + (deep b c + 1) ≤ last_row + 1
  pub under : 1 ≤ c → 1 ≤ top b c
  pub rows : length xs ≡ scratch_size
  pub marks : length ms ≡ second_size

-- the cell c finished, by the chart
abbrev pub advanced : Chart → (level f c : ℕ) → Memory → Memory
advanced b level f zero m = root_closed m (deep b 0) (wide b 0)
advanced b level f (suc p) m = closed b level f (suc p) m

-- where the number of steps stands: the last number of row 0, of which the walk uses the root's own columns only
abbrev pub count_at : ℕ
count_at = 63

-- the number of steps is taken out
abbrev pub uncounted : Memory → Memory
uncounted m = memory_of (set m.rows count_at 0) m.marks

-- something is done where the guard lets it, else nothing changes: m before and n after it
pub record Tried (m n done : Memory) (guard : Type 0) (r : Bool) : Type 0 where
  pub yes : r ≡ true → n ≡ done
  pub no : r ≡ false → n ≡ m
  pub fires : r ≡ false → guard → ⊥

-- the cell c is finished
abbrev pub Finished : (b : Chart) (level f c : ℕ) (m n : Memory) (r : Bool) → Type 0
Finished b level f c m n r = Tried m n (advanced b level f c (uncounted m)) (Guards m.rows m.marks c f (deep b c) (top b c)) r
