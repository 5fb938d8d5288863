use Rattle.following_cell.specs.Opening.{later}
use borrow.Author.Tests.{eq-eqb, ne_eqb}
use Rattle.following_cell.proofs.later.Goals as goal

pub returns-then-n-eq0 : goal.returns-then-n-eq0
unfolding later
returns-then-n-eq0 c = rw (eq-eqb _ _ c.if-n-eq0.true, later)

pub returns : goal.returns
unfolding later
returns c = rw (ne_eqb _ _ c.if-n-eq0.false, later) c.link.ensures
