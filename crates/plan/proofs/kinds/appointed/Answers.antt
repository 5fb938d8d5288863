use Rattle.plan.specs.Plan.{appointed}
use borrow.Author.Tests.{ne_eqb}
use Rattle.plan.proofs.kinds.appointed.Goals as goal

pub returns-in-4 : goal.returns-in-4
unfolding appointed
returns-in-4 c = rw c.in-4.is

pub returns-in_default : goal.returns-in_default
unfolding appointed
returns-in_default c = rw (ne_eqb _ _ c.in_default.in_default-own.rest.1)
