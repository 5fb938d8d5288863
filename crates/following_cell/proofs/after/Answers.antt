use Rattle.following_cell.specs.Opening.{after}
use borrow.Author.Tests.{eq-eqb, ne_eqb, lt-ltb, le-ltb}
use Rattle.following_cell.proofs.after.Goals as goal

pub returns-then-times-gt1 : goal.returns-then-times-gt1
unfolding after
returns-then-times-gt1 c = rw (lt-ltb _ _ c.if-times-gt1.true, after)

pub returns-then-kind-eq2 : goal.returns-then-kind-eq2
unfolding after
returns-then-kind-eq2 c = rw (le-ltb _ _ c.if-times-gt1.false, eq-eqb _ _ c.if-kind-eq2.true, c.link.ensures, after)

pub returns : goal.returns
unfolding after
returns c = rw (le-ltb _ _ c.if-times-gt1.false, ne_eqb _ _ c.if-kind-eq2.false, after)
