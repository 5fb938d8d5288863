-- Laws of the definitions in specs/Worked.antt. Assumes nothing.
use Rattle.std.specs.Prelude.{◌≡◌, refl, map}
use Rattle.whole.specs.Says.{eq_z}
use Rattle.plan.specs.Lists as lists
use Rattle.plan.specs.Plan as plan
use Rattle.rules.specs.Placement as placement
use Rattle.rules.specs.Tests.{flush, after_one, before_one}
use Rattle.contours.specs.Contour as contour
use Rattle.contours.specs.Sheet as ours
use Rattle.least.specs.Worked as worked
use Rattle.why_spec.specs.Measures.{across, far}
use Rattle.why_spec.specs.Links.{box_meets, stem_meets, asks}
use Rattle.why_spec.specs.Search as search
use Rattle.why_spec.specs.Worked.{computed, by, back, row, Z, reasons}

pub computes : map computed reasons ≡ reasons
unfolding across far computed by back row Z reasons worked.ranked worked.chosen worked.planned worked.A worked.B worked.C worked.E worked.F worked.K worked.L worked.Q worked.U search.first search.tight search.tied search.link search.leftmost search.rightmost search.leads search.reached search.closes search.fewest search.final search.before search.origin search.trail search.reason asks box_meets stem_meets flush after_one before_one eq_z lists.index lists.from lists.keep lists.insert lists.sort lists.some lists.mem lists.ahead_in lists.heads lists.next_in lists.total lists.peak plan.blank plan.parent plan.kind plan.box_width plan.box_depth plan.rank plan.cells plan.filed plan.children plan.child plan.appointed plan.climb plan.path plan.within plan.subtree plan.row plan.dictated_bottom plan.ahead plan.next plan.earlier placement.best placement.right placement.width contour.greatest contour.cover contour.clash contour.separation contour.stride contour.offset contour.lefts contour.rights contour.contour ours.middle ours.around ours.trace ours.contours ours.shift ours.along ours.column ours.sheet
computes = refl
