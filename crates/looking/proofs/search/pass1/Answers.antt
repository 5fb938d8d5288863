use mathlib.Core.Path.{◌∙◌}
use Rattle.looking.proofs.Tests.{and_no, and_yes, unasked, asked}
use Rattle.looking.specs.Passes.{pass1}
use borrow.Author.Tests.{eq-eqb, ne_eqb}
use Rattle.looking.proofs.search.pass1.Goals as goal

pub returns-then-a-b : goal.returns-then-a-b
unfolding pass1
returns-then-a-b c = unasked _ (ne_eqb _ _ c.if-a-b.true)

pub returns-then-v : goal.returns-then-v
unfolding pass1
returns-then-v c = and_no _ (ne_eqb _ _ c.if-v.true) ∙ asked _ (eq-eqb _ _ c.if-a-b.false)

pub returns-then-a-ne0 : goal.returns-then-a-ne0
unfolding pass1
returns-then-a-ne0 c = unasked _ (ne_eqb _ _ c.if-a-ne0.true) ∙ and_yes _ (eq-eqb _ _ c.if-v.false) ∙ asked _ (eq-eqb _ _ c.if-a-b.false)

pub returns : goal.returns
unfolding pass1
returns c = asked _ (eq-eqb _ _ c.if-a-ne0.false) ∙ and_yes _ (eq-eqb _ _ c.if-v.false) ∙ asked _ (eq-eqb _ _ c.if-a-b.false)
