use borrow.Author.Tests.{le-leb, lt-leb, eq-eqb, ne_eqb}
use Rattle.plot_arguments.specs.Lengths.{thousandths}
use Rattle.plot_arguments.proofs.thousandths.Goals as goal

pub returns-then-place-le1 : goal.returns-then-place-le1
unfolding thousandths
returns-then-place-le1 c = rw (le-leb _ _ c.if-place-le1.true)

pub returns-then-place-eq2 : goal.returns-then-place-eq2
unfolding thousandths
returns-then-place-eq2 c = rw (lt-leb _ _ c.if-place-le1.false, eq-eqb _ _ c.if-place-eq2.true)

pub returns-then-place-eq3 : goal.returns-then-place-eq3
unfolding thousandths
returns-then-place-eq3 c = rw (lt-leb _ _ c.if-place-le1.false, ne_eqb _ _ c.if-place-eq2.false, eq-eqb _ _ c.if-place-eq3.true)

pub returns : goal.returns
unfolding thousandths
returns c = rw (lt-leb _ _ c.if-place-le1.false, ne_eqb _ _ c.if-place-eq2.false, ne_eqb _ _ c.if-place-eq3.false)
