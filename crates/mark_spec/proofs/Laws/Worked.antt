-- Laws of the definitions in specs/Worked.antt. Assumes nothing.
use Rattle.std.specs.Prelude.{◌≡◌, refl, map}
use Rattle.whole.specs.Says.{eq_z}
use Rattle.whole.specs.Range as range
use Rattle.plan.specs.Lists as lists
use Rattle.plan.specs.Plan as plan
use Rattle.plan.specs.Kinds as kinds
use Rattle.plan.specs.Questions as asked
use Rattle.plan.specs.Questions.{refusal}
use Rattle.rules.specs.Placement as placement
use Rattle.rules.specs.Search.{lowest, scan, judge}
use Rattle.rules.specs.Tests.{test, kept1, flush, after_one, before_one, meets, box4, stem4, share}
use Rattle.rules.specs.Verdict.{answer, verdict}
use Rattle.contours.specs.Contour as contour
use Rattle.contours.specs.Sheet as ours
use Rattle.least.specs.Worked as worked
use Rattle.least.specs.Worked.{sheets, shown, ranked, chosen, planned}
use Rattle.positions.specs.Written.{corners}
use Rattle.mark_spec.specs.Marked.{by_width, graded, marked_of}
use Rattle.mark_spec.specs.Worked.{gives, due}

pub marked : map gives sheets ≡ due
unfolding gives due by_width graded marked_of corners asked.answered asked.mark_given asked.near range.in_range placement.placed sheets ranked chosen planned worked.row worked.kept worked.r worked.l worked.A worked.B worked.C worked.D worked.E worked.F worked.K worked.L worked.M worked.N worked.O worked.P worked.Q worked.R worked.S worked.T worked.U worked.X worked.Y shown answer verdict lowest scan judge test kept1 flush after_one before_one meets box4 stem4 eq_z share lists.index lists.from lists.keep lists.insert lists.sort lists.some lists.mem lists.ahead_in lists.heads lists.next_in lists.total plan.blank plan.parent plan.kind plan.box_width plan.box_depth plan.rank plan.cells plan.filed plan.children plan.child plan.appointed plan.climb plan.path plan.within plan.subtree plan.row plan.ahead plan.next plan.earlier placement.best placement.right placement.base placement.bottom placement.width placement.rows contour.greatest contour.cover contour.clash contour.separation contour.stride contour.offset contour.lefts contour.rights contour.contour ours.middle ours.around ours.trace ours.contours ours.shift ours.along ours.column ours.sheet refusal asked.take_steps asked.take_step asked.put asked.with_each asked.kept asked.sequence asked.ask_all asked.ask asked.at_each asked.holds asked.puts asked.number asked.roomy asked.all_roomy asked.enough asked.in_file asked.lower asked.sized asked.asked asked.or_else kinds.about kinds.known kinds.allows plan.level asked.widest_in
marked = refl
