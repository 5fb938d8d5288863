-- A lattice coordinate on paper (document 02, E1), in the logic's account of IEEE 754. Assumes nothing.
use Rattle.std.specs.Prelude.{ℤ, ◌-ℤ◌, Float}
use Rattle.std.specs.Float.{binary64}
use Rattle.std.specs.Float.Ieee.{of_int, add, mul}
use Rattle.plan.specs.Plan.{Table}
use Rattle.plan.specs.declared.Page.{Page}
use Rattle.rules.specs.Placement.{Placement}
use Rattle.corners.specs.Corners.{left}

-- "turned into a float, times the pitch, rounded once, plus the margin, rounded once"
unfoldable pub plotted : ℤ → (pitch margin : Float) → Float
plotted z p m = add binary64 (mul binary64 (of_int binary64 z) p) m

module _ (t : Table) (p : Placement) (g : Page) where
  -- "lattice coordinate less the sheet's least x"
  unfoldable pub across : ℤ → Float
  across x = plotted (x -ℤ left t p) g.pitch g.margin_x

  -- "or y itself"
  unfoldable pub down : ℤ → Float
  down y = plotted y g.pitch g.margin_y
