use Rattle.looking.proofs.Tests.{unasked_first, unasked_second, asked-both}
use Rattle.looking.specs.Passes.{pass2}
use borrow.Author.Tests.{eq-eqb, ne_eqb}
use Rattle.looking.proofs.search.pass2.Goals as goal

pub returns-then-w-a : goal.returns-then-w-a
unfolding pass2
returns-then-w-a c = unasked_first _ _ (ne_eqb _ _ c.if-w-a.true)

pub returns-then-w-v : goal.returns-then-w-v
unfolding pass2
returns-then-w-v c = unasked_second _ (eq-eqb _ _ c.if-w-a.false) (ne_eqb _ _ c.if-w-v.true)

pub returns : goal.returns
unfolding pass2
returns c = asked-both _ (eq-eqb _ _ c.if-w-a.false) (eq-eqb _ _ c.if-w-v.false)
