use borrow.Author.Tests.{eq-eqb, ne_eqb}
use Rattle.plan.specs.Forms.{marked}
use Rattle.plan.proofs.forms.marked.Goals as goal

pub returns-then-mark-eq-OLD_MARK : goal.returns-then-mark-eq-OLD_MARK
unfolding marked
returns-then-mark-eq-OLD_MARK c = rw (eq-eqb _ _ c.if-mark-eq-OLD_MARK.true)

pub returns : goal.returns
unfolding marked
returns c = rw (ne_eqb _ _ c.if-mark-eq-OLD_MARK.false)
