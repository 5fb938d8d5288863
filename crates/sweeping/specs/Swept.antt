-- What the one pass and the one sweep find out, from which all five rules follow (proofs/Laws/Kept). Assumes nothing.
use Rattle.std.specs.Prelude.{◌≡◌, true, List, ◌⊎◌, ◌≢◌, ℕ, ◌+◌, ◌-◌, ◌^◌, ◌≤◌, ◌<◌, length, get_or, T}
use Rattle.plan.specs.Limits.{most_cells, last_row, farthest}
use Rattle.plan.specs.Plan.{Table, Is, Sound, parent, within}
use Rattle.plan.specs.Fit.{Fit}
use Rattle.rules.specs.Placement.{Placement}
use Rattle.spans.specs.Spans.{Deepest}
use Rattle.looking_sights.specs.Sights.{Sights}
use Rattle.looking.specs.Passes.{pass1, pass2}
use Rattle.looking_sights.specs.Sees.{Looked}

-- the numbers are those of a table that the questions do not refuse, and of a placement
pub record Seen (s : Sights) (n : ℕ) : Type 0 where
  pub table : Table
  pub placement : Placement
  pub fit : Fit table
  pub count : length table ≡ n
  pub looked : Looked table placement s

-- the cell with the number k
pub record Has (s : Sights) (n k : ℕ) : Type 0 where
  pub cell : ℕ
  pub is : cell < n
  pub so : (s cell).first ≡ k

-- numbers of n cells that the code can go by: they can be added to, and parents and places are among the cells
pub record Ready (s : Sights) (n : ℕ) : Type 0 where
  pub some : 1 ≤ n
  pub few : n ≤ most_cells
  pub x_small : (c : ℕ) → c < n → (s c).x < 2 ^ 31
  pub right_small : (c : ℕ) → c < n → (s c).right < 2 ^ 31
  pub bottom_small : (c : ℕ) → c < n → (s c).bottom < 2 ^ 31
  pub wide : (c : ℕ) → c < n → (s c).x ≤ (s c).right
  pub parents : (c : ℕ) → 1 ≤ c → c < n → (s c).parent < n
  pub last : (s 0).end ≤ n
  pub firsts : (c : ℕ) → c < n → (s c).first < (s 0).end
  pub once : (a b : ℕ) → a < n → b < n → (s a).first ≡ (s b).first → a ≡ b
  pub hits : (k : ℕ) → k < (s 0).end → Has s n k
  pub froms : (c : ℕ) → c < n → Has s n (s c).from

-- S1 at each cell, S2 at each cell and its parent
pub record AloneAt (s : Sights) (c : ℕ) : Type 0 where
  pub one : pass1 c c (s c) ≡ true
  pub two : 1 ≤ c → pass2 (s c).parent (s (s c).parent) (s c) ≡ true

pub record Alone (s : Sights) (n : ℕ) : Type 0 where
  pub each : (c : ℕ) → c < n → AloneAt s c

-- the cell that has each number
pub record Order (s : Sights) (n : ℕ) (order : List ℕ) : Type 0 where
  pub low : (k : ℕ) → k < most_cells → get_or order k 0 < n
  pub here : (c : ℕ) → c < n → get_or order (s c).first 0 ≡ c

-- a number that no coordinate passes
abbrev pub top : ℕ
top = 2147483648

-- the parents are the table's
pub record Rooted (t : Table) (s : Sights) (n : ℕ) : Type 0 where
  pub sound : Sound t
  pub count : length t ≡ n
  pub parents : (c : ℕ) → Is t c → (s c).parent ≡ parent t c

-- the greatest of base in each subtree, whichever table has these parents
pub record Gathered (s : Sights) (n : ℕ) (base most : ℕ → ℕ) : Type 0 where
  pub deepest : (t : Table) → Rooted t s n → Deepest t base most

-- no right edge at or below c is further right than high c, and no x there less than top − low c
pub record Extremes (t : Table) (s : Sights) (high low : ℕ → ℕ) : Type 0 where
  pub rights : (c a : ℕ) → Is t a → T (within t c a) → (s a).right ≤ high c
  pub lefts : (c a : ℕ) → Is t a → T (within t c a) → top ≤ (s a).x + low c

-- extremes that can be added to
pub record Small (n : ℕ) (high low : ℕ → ℕ) : Type 0 where
  pub high_small : (c : ℕ) → c < n → high c < 2 ^ 31
  pub low_small : (c : ℕ) → c < n → low c ≤ top

-- S3 and S5 for the subtrees of u and v: both halves, and the overlap
pub record Parted (s : Sights) (al : ℕ) (high low : ℕ → ℕ) (u v : ℕ) : Type 0 where
  pub ends : high u < (s v).x
  pub starts : (s u).x + low v < top
  pub overlap : high u + 1 + low v ≤ top + al

-- for the subtree of v and of the sibling right before it, where there is one
pub record BesideAt (s : Sights) (n al : ℕ) (high low : ℕ → ℕ) (v : ℕ) : Type 0 where
  pub each : (u : ℕ) → u < n → (s u).first ≡ (s v).from → u ≢ v → Parted s al high low u v

pub record Beside (s : Sights) (n al : ℕ) (high low : ℕ → ℕ) : Type 0 where
  pub each : (v : ℕ) → v < n → BesideAt s n al high low v

-- in row y the sweep meets the cell c, which reaches to e: in a row of its box; and, where it is its parent's appointed child, in a row of the parent's
-- stem that is below all that is at or below c
pub data Fills (s : Sights) (c y e : ℕ) : Type 0 where
  box : (s c).y ≤ y → y ≤ (s c).base → e ≡ (s c).right → Fills s c y e
  hang : 1 ≤ c → (s c).nth ≡ (s (s c).parent).middle → (s c).bottom < y → y ≤ (s (s c).parent).bottom → e ≡ (s c).x → Fills s c y e

-- of two cells in one row the first to be opened ends before the other
pub record Clear (s : Sights) (n : ℕ) : Type 0 where
  pub free : (a b y e e' : ℕ) → a < n → b < n → (s a).first < (s b).first → Fills s a y e → Fills s b y e' → e < (s b).x

-- ---- S1 puts all cells into the rows of a sheet
pub record Rows (s : Sights) (n : ℕ) : Type 0 where
  pub first_row : (c : ℕ) → c < n → farthest ≤ (s c).y
  pub box_rows : (c : ℕ) → c < n → ((s c).y ≤ (s c).base) × ((s c).base ≤ (s c).bottom)
  pub stem_rows : (c : ℕ) → 1 ≤ c → c < n → (s c).bottom ≤ (s (s c).parent).bottom
  pub sheet_rows : (c : ℕ) → c < n → (s c).bottom ≤ farthest + last_row

-- ---- the sweep's rows: how far right each is taken, one number more, so that 0 is for none
abbrev pub most_rows : ℕ
most_rows = last_row + 1

-- the number of the row y, a coordinate moved up
abbrev pub level : List ℕ → ℕ → ℕ
level rs y = get_or rs (y - farthest) 0

-- rows from to to were free at x, and are taken to before v
pub record Filled (rs rs' : List ℕ) (from to x v : ℕ) : Type 0 where
  pub long : length rs' ≡ most_rows
  pub free : (y : ℕ) → from ≤ y → y ≤ to → level rs y ≤ x
  pub put : (y : ℕ) → from ≤ y → y ≤ to → level rs' y ≡ v
  pub off : (y : ℕ) → farthest ≤ y → (y < from) ⊎ (to < y) → level rs' y ≡ level rs y
  pub grows : (i : ℕ) → get_or rs i 0 ≤ get_or rs' i 0

-- one of them was not
pub record Taken (rs : List ℕ) (from to x : ℕ) : Type 0 where
  pub row : ℕ
  pub low : from ≤ row
  pub high : row ≤ to
  pub so : x < level rs row

-- a row is as it was, or taken by c
pub data Held (s : Sights) (c y : ℕ) (rs rs' : List ℕ) : Type 0 where
  as_it_was : level rs' y ≡ level rs y → Held s c y rs rs'
  by_it : (e : ℕ) → Fills s c y e → level rs' y ≡ e + 1 → Held s c y rs rs'

-- the rows of the cell c were free at its x, and are taken by it; the others are as they were
pub record Settled (s : Sights) (c : ℕ) (rs rs' : List ℕ) : Type 0 where
  pub long : length rs' ≡ most_rows
  pub free : (y e : ℕ) → Fills s c y e → level rs y ≤ (s c).x
  pub put : (y e : ℕ) → Fills s c y e → e < level rs' y
  pub own : (y : ℕ) → farthest ≤ y → Held s c y rs rs'
  pub grows : (i : ℕ) → get_or rs i 0 ≤ get_or rs' i 0

-- one of them was not
pub record Blocked (s : Sights) (c : ℕ) (rs : List ℕ) : Type 0 where
  pub row : ℕ
  pub to : ℕ
  pub fills : Fills s c row to
  pub so : (s c).x < level rs row
