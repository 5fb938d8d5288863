use mathlib.Core.Path.{◌∙◌}
use Rattle.following_cell.specs.Opening.{waiting}
use borrow.Author.Tests.{eq-eqb, ne_eqb}
use Rattle.following_cell.proofs.waiting.Goals as goal

pub returns-then-a-eq0 : goal.returns-then-a-eq0
unfolding waiting
returns-then-a-eq0 c = c.nothing.ensures ∙ rw (eq-eqb _ _ c.if-a-eq0.true, waiting)

pub returns-then-a-eq1 : goal.returns-then-a-eq1
unfolding waiting
returns-then-a-eq1 c = c.once.ensures ∙ rw (ne_eqb _ _ c.if-a-eq0.false, eq-eqb _ _ c.if-a-eq1.true, waiting)

pub returns : goal.returns
unfolding waiting
returns c = c.nothing-2.ensures ∙ rw (ne_eqb _ _ c.if-a-eq0.false, ne_eqb _ _ c.if-a-eq1.false, waiting)
