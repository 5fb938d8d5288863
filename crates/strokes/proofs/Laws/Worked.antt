-- The worked strokes at the call, by computation. Assumes nothing.
use Rattle.std.specs.Prelude.{refl}
use Rattle.std.specs.Float.Ieee as ieee
use Rattle.std.specs.Int.Count.{count_trailing_zeros}
use Rattle.whole.specs.Range as range
use Rattle.plan.specs.Lists as lists
use Rattle.plan.specs.Plan as plan
use Rattle.plan.specs.Kinds as kinds
use Rattle.plan.specs.Pages as pages
use Rattle.plan.specs.Questions as asked
use Rattle.rules.specs.Placement.{placed, best, right, base}
use Rattle.corners.specs.Corners.{left}
use Rattle.ends.specs.Ended.{half, joined}
use Rattle.pen.specs.Paper.{plotted, across, down}
use Rattle.pen.specs.Strokes.{each, move, line, box_strokes, from_end_to_end, connector_strokes, strokes}
use Rattle.pen.specs.Worked.{B, BPositions, BPage}
use Rattle.strokes.specs.Stroked.{stroked_of}
use Rattle.strokes.specs.Worked.{too_far, Rows}

pub worked : Rows
unfolding stroked_of too_far B BPositions BPage strokes each left best placed box_strokes connector_strokes from_end_to_end joined half move line across down right base plotted ieee.of_int ieee.add ieee.mul ieee.sum ieee.round ieee.units ieee.odd ieee.size ieee.span ieee.climb ieee.le ieee.lt ieee.eq count_trailing_zeros pages.from_to pages.fair range.in_range asked.refusal asked.stroke_given asked.near asked.take_steps asked.take_step asked.sequence asked.ask_all asked.ask asked.at_each asked.holds asked.puts asked.number asked.roomy asked.all_roomy asked.enough asked.in_file asked.in_table asked.put asked.with_each asked.kept asked.on_page asked.strokes_of asked.numbered asked.lower asked.sized asked.widest_in asked.asked asked.answered asked.or_else kinds.about kinds.known kinds.allows lists.from lists.keep lists.insert lists.sort lists.some lists.mem lists.total plan.blank plan.parent plan.kind plan.box_width plan.box_depth plan.rank plan.cells plan.filed plan.children plan.climb plan.path plan.level plan.row
worked = record { first = refl; joins = refl; last = refl; one_more = refl; pitch = refl; margin_x = refl; margin_y = refl; far = refl; short = refl }
