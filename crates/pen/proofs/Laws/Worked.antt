-- Worked coordinates and strokes, by computation. Assumes nothing.
use Rattle.std.specs.Prelude.{refl}
use Rattle.std.specs.Float.Ieee.{of_int, of_bits, add, mul, round, sum, units, odd, size, span, climb, of_fields}
use Rattle.std.specs.Int.Count.{count_trailing_zeros}
use Rattle.plan.specs.Lists.{from}
use Rattle.plan.specs.Plan.{parent, box_width, box_depth, cells, blank}
use Rattle.rules.specs.Placement.{placed, best, right, base}
use Rattle.corners.specs.Corners.{left}
use Rattle.ends.specs.Ended.{half, joined}
use Rattle.pen.specs.Paper.{plotted, across, down}
use Rattle.pen.specs.Strokes.{each, move, line, box_strokes, from_end_to_end, connector_strokes, strokes}
use Rattle.pen.specs.Worked.{B, BPositions, BPage, Rows}

pub rows : Rows
unfolding B BPositions BPage strokes each from cells left best placed box_strokes connector_strokes from_end_to_end joined half move line across down right base parent box_width box_depth blank plotted of_int add mul sum round units odd size span climb of_bits of_fields count_trailing_zeros
rows = record { twice_rounded = refl; upper_left = refl; upper_right = refl; lower_right = refl; lower_left = refl; closed = refl; lifts = refl; joins = refl; ends = refl }
