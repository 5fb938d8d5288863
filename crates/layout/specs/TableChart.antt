-- The columns of a table that the walk reads. Assumes nothing.
use Rattle.std.specs.Prelude.{List, [], ◌∷◌, ◌++◌, ℕ, zero, suc, ◌*◌, length, replicate}
use Rattle.plan.specs.Limits.{most_cells}
use Rattle.plan.specs.Plan.{Table, parent, kind, box_width, box_depth, rank, row}
use Rattle.links.specs.Build.{links_of}
use Rattle.walk.specs.Machine.{Chart, chart}

-- a column of k numbers
unfoldable pub numbers : (ℕ → ℕ) → ℕ → List ℕ
numbers f zero = []
numbers f (suc k) = numbers f k ++ (f k ∷ [])

-- the columns of a table that the walk reads: its links, widths, depths and rows
abbrev pub chart_of : Table → ℕ → Chart
chart_of t al =
    chart (links_of (numbers (parent t) most_cells) (numbers (kind t) most_cells) (numbers (rank t) most_cells) (length t) (replicate (4 * most_cells) 0)) (numbers (box_width t) most_cells) (numbers (box_depth t) most_cells) (numbers (row t) most_cells) al
