use borrow.Author.Tests.{eq-eqb, ne_eqb}
use Rattle.plot_arguments.specs.Lengths.{with_point}
use Rattle.plot_arguments.proofs.with_point.Goals as goal

pub returns-then-d-eq0 : goal.returns-then-d-eq0
unfolding with_point
returns-then-d-eq0 c = rw (eq-eqb _ _ c.if-d-eq0.true)

pub returns : goal.returns
unfolding with_point
returns c = rw (ne_eqb _ _ c.if-d-eq0.false) c.broken.ensures
