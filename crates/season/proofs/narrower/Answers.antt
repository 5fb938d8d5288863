use borrow.Author.Tests.{eq-eqb, ne_eqb}
use Rattle.season.specs.Pool.{narrower}
use Rattle.season.proofs.narrower.Goals as goal

pub returns-then-a-eq0 : goal.returns-then-a-eq0
unfolding narrower
returns-then-a-eq0 c = rw (eq-eqb _ _ c.if-a-eq0.true)

pub returns-then-b-eq0 : goal.returns-then-b-eq0
unfolding narrower
returns-then-b-eq0 c = rw (ne_eqb _ _ c.if-a-eq0.false, eq-eqb _ _ c.if-b-eq0.true)

pub returns : goal.returns
unfolding narrower
returns c = rw (ne_eqb _ _ c.if-a-eq0.false, ne_eqb _ _ c.if-b-eq0.false) c.min.ensures
