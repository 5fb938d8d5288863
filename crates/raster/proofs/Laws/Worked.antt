-- The worked strips of specs/Worked.antt, by computation. Assumes nothing.
use Rattle.std.specs.Prelude.{◌≡◌, refl, map}
use Rattle.whole.specs.Says.{eq_z}
use Rattle.plan.specs.Lists.{from, some}
use Rattle.plan.specs.Plan.{box_width, box_depth, cells, blank}
use Rattle.rules.specs.Placement.{placed, best, right, base}
use Rattle.corners.specs.Corners.{left}
use Rattle.raster.specs.Points.{on_box, printed, dot}
use Rattle.raster.specs.Strip.{pack, bytes, strip_of}
use Rattle.raster.specs.Worked.{Row, computed, cell, step, b, overlap, rows}

pub worked : map computed rows ≡ map (λ (r : Row). r.bytes) rows
unfolding computed cell step b overlap rows strip_of bytes pack dot printed on_box left best some from cells placed right base box_width box_depth blank eq_z
worked = refl
