-- A cell is complete: what becomes of the scratch and of its marks. Assumes nothing.
use Rattle.std.specs.Prelude.{List, ℕ, ◌+◌, ◌-◌, ◌*◌, ◌≤◌, max, length, get_or, set}
use Rattle.rows.specs.Rows.{row_size, box_to, max_to}

-- the scratch and the marks
pub record Memory : Type 0 where
  pub rows : List ℕ
  pub marks : List ℕ

abbrev pub memory_of : List ℕ → List ℕ → Memory
memory_of xs ms = record { rows = xs; marks = ms }

-- mark k of the cell c
abbrev pub mark : List ℕ → ℕ → ℕ → ℕ
mark ms c k = get_or ms (4 * c + k) 0

-- its four marks are put
abbrev pub four : List ℕ → ℕ → ℕ → ℕ → ℕ → ℕ → List ℕ
four ms c m0 m1 m2 m3 = set (set (set (set ms (4 * c) m0) (4 * c + 1) m1) (4 * c + 2) m2) (4 * c + 3) m3

-- its distance from its first sibling is put
abbrev pub noted : List ℕ → ℕ → ℕ → List ℕ
noted ms c x = set ms (4 * c + 3) x

-- the rows of an open cell of depth d and of its joined children
abbrev pub height : List ℕ → ℕ → ℕ → ℕ
height ms c d = d + 1 + mark ms c 0

-- the rows below the box of f once its child c, of depth d, has joined: those of the deeper, of the children before and of c
abbrev pub joined_rows : List ℕ → ℕ → ℕ → ℕ → ℕ
joined_rows ms f c d = max (mark ms f 0) (height ms c d)

-- the box is drawn over the joined rows. The marks: the middle, both extents, and 0 for the distance from the first sibling
unfoldable pub completed : Memory → ℕ → ℕ → ℕ → ℕ → Memory
completed m at c d w =
    let xs = box_to m.rows at w (d + 1) in
    let hs = height m.marks c d in
    memory_of xs (four m.marks c (mark m.marks c 3 - mark m.marks c 2) (max_to xs at hs) (max_to xs (at + 1) hs) 0)

-- ---- what the call needs
pub record Completing (m : Memory) (at c d : ℕ) : Type 0 where
  pub column : at ≤ 62
  pub own : 4 * c + 4 ≤ length m.marks
  pub rows : row_size * height m.marks c d ≤ length m.rows
  pub behind : mark m.marks c 2 ≤ mark m.marks c 3
