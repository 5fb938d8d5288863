use mathlib.Core.Path.{◌∙◌}
use Rattle.following_cell.specs.Opening.{picked}
use borrow.Author.Tests.{eq-eqb, ne_eqb}
use Rattle.following_cell.proofs.picked.Goals as goal

pub returns-then-n-eq0 : goal.returns-then-n-eq0
unfolding picked
returns-then-n-eq0 c = c.nothing.ensures ∙ rw (eq-eqb _ _ c.if-n-eq0.true, picked)

pub returns : goal.returns
unfolding picked
returns c = c.once.ensures ∙ rw (ne_eqb _ _ c.if-n-eq0.false, picked)
