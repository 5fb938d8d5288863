use Rattle.why_ties.proofs.Chains.{and_no, and_yes}
use Rattle.why_ties.specs.Ties.{appoints}
use borrow.Author.Tests.{eq-eqb, ne_eqb}
use Rattle.why_ties.proofs.appoints.Goals as goal

pub returns-then-w-a : goal.returns-then-w-a
unfolding appoints
returns-then-w-a c = and_no _ (ne_eqb _ _ c.if-w-a.true)

pub returns : goal.returns
unfolding appoints
returns c = and_yes _ (eq-eqb _ _ c.if-w-a.false)
