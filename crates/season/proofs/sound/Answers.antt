use borrow.Author.Tests.{eq-eqb, ne_eqb, le-leb, lt-leb}
use Rattle.season.specs.Pool.{sound}
use Rattle.season.proofs.sound.Goals as goal

pub returns-then-r-gt-MOST_PLANS : goal.returns-then-r-gt-MOST_PLANS
unfolding sound
returns-then-r-gt-MOST_PLANS c = rw (lt-leb _ _ c.if-r-gt-MOST_PLANS.true)

pub returns-then-r : goal.returns-then-r
unfolding sound
returns-then-r c = rw (le-leb _ _ c.if-r-gt-MOST_PLANS.false, lt-leb _ _ c.if-r.true)

pub returns-then-r-2 : goal.returns-then-r-2
unfolding sound
returns-then-r-2 c = rw (le-leb _ _ c.if-r-gt-MOST_PLANS.false, le-leb _ _ c.if-r.false, lt-leb _ _ c.if-r-2.true)

pub returns-then-r-3 : goal.returns-then-r-3
unfolding sound
returns-then-r-3 c = rw (le-leb _ _ c.if-r-gt-MOST_PLANS.false, le-leb _ _ c.if-r.false, le-leb _ _ c.if-r-2.false, lt-leb _ _ c.if-r-3.true)

pub returns-then-r-ne0 : goal.returns-then-r-ne0
unfolding sound
returns-then-r-ne0 c = rw (le-leb _ _ c.if-r-gt-MOST_PLANS.false, le-leb _ _ c.if-r.false, le-leb _ _ c.if-r-2.false, le-leb _ _ c.if-r-3.false, ne_eqb _ _ c.if-r-ne0.true)

pub returns : goal.returns
unfolding sound
returns c = rw (le-leb _ _ c.if-r-gt-MOST_PLANS.false, le-leb _ _ c.if-r.false, le-leb _ _ c.if-r-2.false, le-leb _ _ c.if-r-3.false, eq-eqb _ _ c.if-r-ne0.false) c.empty.ensures
