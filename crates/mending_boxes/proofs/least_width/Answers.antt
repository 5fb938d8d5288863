use Rattle.plan.specs.Kinds.{about}
use Rattle.mending_boxes.specs.Boxes.{least_width}
use Rattle.mending_boxes.proofs.Laws.Code.{least_known}
use borrow.Author.Rules.{rules}
use Rattle.mending_boxes.proofs.least_width.Goals as goal

pub returns-in-None : goal.returns-in-None
unfolding least_width about
returns-in-None c = search rules

pub returns-in-Some : goal.returns-in-Some
returns-in-Some c = rw (c.from.ensures, c.from-in-Some.ensures) (least_known _ _ _ _ c.about.ensures c.in-Some.is)
