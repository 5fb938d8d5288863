-- Laws of the definitions in specs/Worked.antt. Assumes nothing.
use Rattle.std.specs.Prelude.{◌≡◌, refl, map}
use Rattle.whole.specs.Says.{eq_z}
use Rattle.plan.specs.Lists as lists
use Rattle.plan.specs.Plan as plan
use Rattle.plan.specs.Kinds as kinds
use Rattle.plan.specs.Questions as asked
use Rattle.plan.specs.Questions.{refusal, layout_given}
use Rattle.rules.specs.Placement as placement
use Rattle.rules.specs.Search.{lowest, scan, judge}
use Rattle.rules.specs.Tests.{test, kept1, flush, after_one, before_one, meets, box4, stem4, share}
use Rattle.rules.specs.Verdict.{answer, verdict}
use Rattle.contours.specs.Contour as contour
use Rattle.contours.specs.Sheet as ours
use Rattle.least.specs.Worked.{shown, computed, ranked, chosen, planned, A, B, C, D, E, F, K, L, M, N, O, P, Q, R, S, T, U, X, Y, r, l, kept, row, sheets}

pub computes : map computed sheets ≡ sheets
unfolding computed shown ranked chosen planned sheets row kept r l A B C D E F K L M N O P Q R S T U X Y answer verdict lowest scan judge test kept1 flush after_one before_one meets box4 stem4 eq_z share lists.index lists.from lists.keep lists.insert lists.sort lists.some lists.mem lists.ahead_in lists.heads lists.next_in lists.total plan.blank plan.parent plan.kind plan.box_width plan.box_depth plan.rank plan.cells plan.filed plan.children plan.child plan.appointed plan.climb plan.path plan.within plan.subtree plan.row plan.ahead plan.next plan.earlier placement.best placement.right placement.base placement.bottom placement.width placement.rows contour.greatest contour.cover contour.clash contour.separation contour.stride contour.offset contour.lefts contour.rights contour.contour ours.middle ours.around ours.trace ours.contours ours.shift ours.along ours.column ours.sheet refusal layout_given asked.take_steps asked.take_step asked.put asked.with_each asked.kept asked.sequence asked.ask_all asked.ask asked.at_each asked.holds asked.puts asked.number asked.roomy asked.all_roomy asked.enough asked.in_file asked.lower asked.sized asked.asked asked.or_else kinds.about kinds.known kinds.allows plan.level asked.widest_in
computes = refl
