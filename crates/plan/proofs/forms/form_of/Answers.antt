use borrow.Author.Tests.{eq-eqb, ne_eqb}
use Rattle.plan.specs.Forms.{form_of}
use Rattle.plan.proofs.forms.form_of.Goals as goal

pub returns-then-mark-eq-WIDE_MARK : goal.returns-then-mark-eq-WIDE_MARK
unfolding form_of
returns-then-mark-eq-WIDE_MARK c = rw (eq-eqb _ _ c.if-mark-eq-WIDE_MARK.true)

pub returns : goal.returns
unfolding form_of
returns c = rw (ne_eqb _ _ c.if-mark-eq-WIDE_MARK.false)
