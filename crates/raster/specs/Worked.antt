-- Worked strips: an upright box, document 01's sheet ◆B, two boxes that overlap, a box that begins above row 0. Each row is checked by computation. Assumes nothing.
use Rattle.std.specs.Prelude.{List, [], ◌∷◌, ℕ, length, ℤ, pos, negsuc}
use Rattle.plan.specs.Limits.{no_parent}
use Rattle.plan.specs.Plan.{Table, Cell}
use Rattle.rules.specs.Placement.{placed}
use Rattle.raster.specs.Strip.{strip_of}

-- a placed table, a row and a first column, with the bytes of the strip
pub record Row : Type 0 where
  pub table : Table
  pub positions : List ℤ
  pub row : ℕ
  pub first : ℕ
  pub bytes : List ℕ

-- as many bytes of the strip
unfoldable pub computed : Row → List ℕ
computed r = strip_of r.table (placed r.positions) r.row r.first (length r.bytes)

unfoldable pub cell : (parent kind width depth : ℕ) → Cell
cell p k w d = record { parent = p; kind = k; width = w; depth = d; rank = 0 }

-- a step, W 5 and D 2, whose upper left corner is at x, y
unfoldable pub step : (x y : ℤ) (row first : ℕ) → List ℕ → Row
step x y r f bs = record { table = cell no_parent 1 5 2 ∷ []; positions = x ∷ y ∷ []; row = r; first = f; bytes = bs }

-- ◆B: run W 4, steps W 3 and 5, x −4 and 0
unfoldable pub b : (row first : ℕ) → List ℕ → Row
b r f bs =
    record { table = cell no_parent 2 4 1 ∷ cell 0 1 3 1 ∷ cell 0 1 5 1 ∷ []; positions = pos 0 ∷ pos 0 ∷ negsuc 3 ∷ pos 2 ∷ pos 0 ∷ pos 2 ∷ []; row = r; first = f; bytes = bs }

-- somebody else's placement: W 4 and D 3, each, the second two columns right of the first and one row below it
unfoldable pub overlap : (row first : ℕ) → List ℕ → Row
overlap r f bs = record { table = cell no_parent 5 4 3 ∷ cell 0 1 4 3 ∷ []; positions = pos 7 ∷ pos 0 ∷ pos 9 ∷ pos 1 ∷ []; row = r; first = f; bytes = bs }

unfoldable pub rows : List Row
rows =
    -- the upper edge, an inner row, the lower edge, a row below the sheet
    step (pos 0) (pos 0) 0 0 (0xfc ∷ [])
    ∷ step (pos 0) (pos 0) 1 0 (0x84 ∷ [])
    ∷ step (pos 0) (pos 0) 2 0 (0xfc ∷ [])
    ∷ step (pos 0) (pos 0) 3 0 (0 ∷ [])
    -- a box further right gives the same; one that begins at y −1; one at y 5, above which nothing is
    ∷ step (pos 100) (pos 0) 1 0 (0x84 ∷ [])
    ∷ step (negsuc 99) (negsuc 0) 0 0 (0x84 ∷ [])
    ∷ step (pos 0) (pos 5) 4 0 (0 ∷ [])
    -- columns from 0, from an odd one, from the last one that has a point and beyond; none; at the end of what 32 bits hold
    ∷ b 0 0 (0x0f ∷ 0x80 ∷ [])
    ∷ b 0 3 (0x7c ∷ 0 ∷ [])
    ∷ b 0 4 (0xf8 ∷ [])
    ∷ b 2 0 (0xff ∷ 0xc0 ∷ [])
    ∷ b 2 9 (0x80 ∷ [])
    ∷ b 2 10 (0 ∷ [])
    ∷ b 2 0 []
    ∷ b 2 4294967288 (0 ∷ 0 ∷ [])
    -- each boundary is printed, through the other box too
    ∷ overlap 1 0 (0xbe ∷ [])
    ∷ overlap 2 0 (0xaa ∷ [])
    ∷ overlap 3 0 (0xfa ∷ [])
    ∷ []
