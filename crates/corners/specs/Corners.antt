-- "the sheet's least x" (document 02, E1 and E8), and the positions as the code has them, moved up so that none is negative.
-- The four numbers of a box's corners are x and y of its cell, and `right` and `base` of crate `rules`. Assumes nothing.
use Rattle.std.specs.Prelude.{◌≡◌, List, ℕ, ◌+◌, ◌*◌, ◌≤◌, ◌<◌, length, get_or, ℤ, pos, ◌-ℤ◌}
use Rattle.whole.specs.Bias.{bias}
use Rattle.whole.specs.Range.{InRange}
use Rattle.plan.specs.Limits.{farthest, most_cells}
use Rattle.plan.specs.Lists.{from}
use Rattle.plan.specs.Plan.{Table, cells}
use Rattle.rules.specs.Placement.{Placement, placed, least}

-- "the sheet's least x", of all cells
unfoldable pub left : Table → Placement → ℤ
left t p = least p.x (p.x 0) (cells t)

-- x and y of a cell, moved up
abbrev pub x_up : List ℤ → ℕ → ℕ
x_up ps c = bias farthest (get_or ps (2 * c) (pos 0))

abbrev pub y_up : List ℤ → ℕ → ℕ
y_up ps c = bias farthest (get_or ps (2 * c + 1) (pos 0))

-- cell c has positions, near enough
pub record Spot (ps : List ℤ) (c : ℕ) : Type 0 where
  pub few : c < most_cells
  pub there : 2 * c + 1 < length ps
  pub x : InRange farthest (get_or ps (2 * c) (pos 0))
  pub y : InRange farthest (get_or ps (2 * c + 1) (pos 0))

-- r is the least x of n cells, moved up
pub record Leftmost (ps : List ℤ) (n r : ℕ) : Type 0 where
  pub low : r ≤ farthest + farthest
  pub is : pos r -ℤ pos farthest ≡ least (placed ps).x ((placed ps).x 0) (from 0 n)
