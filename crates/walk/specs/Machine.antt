-- The walk as a machine: the stack of open cells, the child to open next, the scratch and the marks. Assumes nothing.
use Rattle.std.specs.Prelude.{◌≡◌, List, [], ◌∷◌, ◌++◌, ℕ, zero, suc, ◌+◌, ◌*◌, ◌≤◌, ◌<◌, length, get_or, take, drop}
use Rattle.plan.specs.Limits.{most_cells, last_row}
use Rattle.rows.specs.Rows.{row_size, extent, Low, box_to}
use Rattle.joining.specs.Joining.{Memory, memory_of, height, joined_rows, completed, Completing, Settling, finished}
use Rattle.links.specs.Links.{link}
use Rattle.walk.specs.declared.Board.{Board}

-- the columns that the walk reads: links, widths, depths, top rows; and the allowance
pub record Chart : Type 0 where
  pub links : List ℕ
  pub widths : List ℕ
  pub depths : List ℕ
  pub tops : List ℕ
  pub allowance : ℕ

abbrev pub chart : List ℕ → List ℕ → List ℕ → List ℕ → ℕ → Chart
chart ls ws ds ts al = record { links = ls; widths = ws; depths = ds; tops = ts; allowance = al }

-- of a board as the code has it
abbrev pub chart_of : Board → Chart
chart_of b = chart b.links.now b.widths.now b.depths.now b.tops.now b.allowance

-- W, D, the top row and the appointed place of a cell, as the chart has them
abbrev pub wide : Chart → ℕ → ℕ
wide b c = get_or b.widths c 0

abbrev pub deep : Chart → ℕ → ℕ
deep b c = get_or b.depths c 0

abbrev pub top : Chart → ℕ → ℕ
top b c = get_or b.tops c 0

abbrev pub apt : Chart → ℕ → ℕ
apt b c = link b.links c 3

-- the open cells, the latest first; the child to open next, 0 where there is none; the scratch and the marks
pub record State : Type 0 where
  pub stack : List ℕ
  pub next : ℕ
  pub memory : Memory

-- a stretch of the scratch: n rows from row y on
abbrev pub stretch : List ℕ → ℕ → ℕ → List ℕ
stretch xs y n = take (row_size * n) (drop (row_size * y) xs)

-- the scratch with zs in the place of that stretch: the rows above it, and those below it, are as they were
abbrev pub with_stretch : List ℕ → ℕ → ℕ → List ℕ → List ℕ
with_stretch xs y n zs = take (row_size * y) xs ++ (zs ++ drop (row_size * y + row_size * n) xs)

-- how many rows the stretch below the box of f has once its child c is joined
abbrev pub stretch_rows : Chart → ℕ → ℕ → List ℕ → ℕ
stretch_rows b f c ms = joined_rows ms f c (deep b c)

-- the child c of f is completed and joins it, in the rows xs of the stretch below the box of f: they begin with the top row of c
abbrev pub joined_in : Chart → ℕ → ℕ → ℕ → List ℕ → List ℕ → Memory
joined_in b level f c xs ms = finished (memory_of xs ms) (2 * level) f c (deep b c) (wide b c) (link b.links c 2) (apt b f) b.allowance

-- the child c of f, at the level below, is closed: only the stretch below the box of f is written ("only that stretch is written while its sons are joined")
unfoldable pub closed : Chart → ℕ → ℕ → ℕ → Memory → Memory
closed b level f c m =
    let n = stretch_rows b f c m.marks in
    let j = joined_in b level f c (stretch m.rows (top b c) n) m.marks in
    memory_of (with_stretch m.rows (top b c) n j.rows) j.marks

-- what closing c leaves of the scratch xs: every row above the stretch, which begins with the top row of c, and every row below it is as it was
pub record OnlyStretch (b : Chart) (f c : ℕ) (xs ms ys : List ℕ) : Type 0 where
  pub same_length : length ys ≡ length xs
  pub above : (q k : ℕ) → k < row_size → q < top b c → extent ys q k ≡ extent xs q k
  pub below : (q k : ℕ) → k < row_size → top b c + stretch_rows b f c ms ≤ q → extent ys q k ≡ extent xs q k

-- the root is closed, and its rows are cleared
unfoldable pub root_closed : Memory → ℕ → ℕ → Memory
root_closed m d w = memory_of (box_to (completed m 0 0 d w).rows 0 0 (height m.marks 0 d)) (completed m 0 0 d w).marks

-- a next child is opened; or the latest open cell is closed, with the root last
abbrev pub step_at : Chart → ℕ → List ℕ → Memory → State
step_at b (suc s) cs m = record { stack = suc s ∷ cs; next = link b.links (suc s) 0; memory = m }
step_at b zero [] m = record { stack = []; next = 0; memory = m }
step_at b zero (c ∷ []) m = record { stack = []; next = 0; memory = root_closed m (deep b 0) (wide b 0) }
step_at b zero (c ∷ f ∷ fs) m = record { stack = f ∷ fs; next = link b.links c 1; memory = closed b (length fs) f c m }

-- one turn
unfoldable pub step : Chart → State → State
step b st = step_at b st.next st.stack st.memory

-- ---- what the calls need
pub record Finishing (m : Memory) (at f c d w : ℕ) : Type 0 where
  pub completing : Completing m (at + 2) c d
  pub settling : Settling (completed m (at + 2) c d w) at f c (height m.marks c d)

pub record Rooting (m : Memory) (d : ℕ) : Type 0 where
  pub completing : Completing m 0 0 d

pub record Closing (b : Chart) (level f c : ℕ) (xs ms : List ℕ) : Type 0 where
  pub links : 4 * c + 4 ≤ length b.links
  pub linksf : 4 * f + 4 ≤ length b.links
  pub widths : c < length b.widths
  pub depths : c < length b.depths
  pub tops : c < length b.tops
  pub shallow : level ≤ 30
  pub own : 4 * c + 4 ≤ length ms
  pub theirs : 4 * f + 4 ≤ length ms
  pub small : height ms c (deep b c) ≤ last_row + 1
  pub fits : row_size * top b c + row_size * stretch_rows b f c ms ≤ length xs
  pub low : Low (stretch xs (top b c) (stretch_rows b f c ms))
  pub finishing : Finishing (memory_of (stretch xs (top b c) (stretch_rows b f c ms)) ms) (2 * level) f c (deep b c) (wide b c)

pub record Ending (b : Chart) (m : Memory) : Type 0 where
  pub widths : 0 < length b.widths
  pub depths : 0 < length b.depths
  pub rooting : Rooting m (deep b 0)

abbrev pub Shutting : Chart → List ℕ → Memory → Type 0
Shutting b [] m = Unit {0}
Shutting b (c ∷ []) m = Ending b m
Shutting b (c ∷ f ∷ fs) m = Closing b (length fs) f c m.rows m.marks

pub record Opening (b : Chart) (st : State) : Type 0 where
  pub links : 4 * st.next + 4 ≤ length b.links
  pub small : st.next < most_cells
  pub room : length st.stack < 32

pub record Turning (b : Chart) (st : State) : Type 0 where
  pub some : 0 < length st.stack
  pub many : length st.stack ≤ 32
  pub into : 0 < st.next → Opening b st
  pub shut : st.next ≡ 0 → Shutting b st.stack st.memory
