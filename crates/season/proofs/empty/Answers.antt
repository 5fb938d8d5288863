use borrow.Author.Tests.{eq-eqb, ne_eqb}
use Rattle.season.specs.Pool.{empty}
use Rattle.season.proofs.empty.Goals as goal

pub returns-then-r-ne0 : goal.returns-then-r-ne0
unfolding empty
returns-then-r-ne0 c = rw (ne_eqb _ _ c.if-r-ne0.true)

pub returns-then-r-ne0-2 : goal.returns-then-r-ne0-2
unfolding empty
returns-then-r-ne0-2 c = rw (eq-eqb _ _ c.if-r-ne0.false, ne_eqb _ _ c.if-r-ne0-2.true)

pub returns-then-r-ne0-3 : goal.returns-then-r-ne0-3
unfolding empty
returns-then-r-ne0-3 c = rw (eq-eqb _ _ c.if-r-ne0.false, eq-eqb _ _ c.if-r-ne0-2.false, ne_eqb _ _ c.if-r-ne0-3.true)

pub returns : goal.returns
unfolding empty
returns c = rw (eq-eqb _ _ c.if-r-ne0.false, eq-eqb _ _ c.if-r-ne0-2.false, eq-eqb _ _ c.if-r-ne0-3.false)
