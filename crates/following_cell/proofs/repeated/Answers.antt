use mathlib.Core.Path.{◌∙◌}
use Rattle.following_cell.specs.Opening.{repeated}
use borrow.Author.Tests.{eq-eqb, ne_eqb}
use Rattle.following_cell.proofs.repeated.Goals as goal

pub returns-then-a-eq0 : goal.returns-then-a-eq0
unfolding repeated
returns-then-a-eq0 c = c.nothing.ensures ∙ rw (eq-eqb _ _ c.if-a-eq0.true, repeated)

pub returns : goal.returns
unfolding repeated
returns c = rw (ne_eqb _ _ c.if-a-eq0.false, repeated)
