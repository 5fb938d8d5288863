use borrow.Author.Tests.{eq-eqb, ne_eqb}
use Rattle.plot_arguments.specs.Lengths.{next_place}
use Rattle.plot_arguments.proofs.next_place.Goals as goal

pub returns-then-place-eq0 : goal.returns-then-place-eq0
unfolding next_place
returns-then-place-eq0 c = rw (eq-eqb _ _ c.if-place-eq0.true)

pub returns : goal.returns
unfolding next_place
returns c = rw (ne_eqb _ _ c.if-place-eq0.false)
