use native.Mathlib.Omega.{arith}
use borrow.Author.Tests.{ne_eqb}
use Rattle.plan.specs.Questions.{asked, answered, put_at}
use Rattle.asking.proofs.asked.Goals as goal

pub returns-then-yes-clause-put : goal.returns-then-yes-clause-put
unfolding put_at
returns-then-yes-clause-put c = rw c.if-yes.true

pub returns-then-yes-clause-numbered : goal.returns-then-yes-clause-numbered
unfolding asked answered
returns-then-yes-clause-numbered c = λ h. rw c.if-yes.true

pub returns-clause-put : goal.returns-clause-put
unfolding put_at
returns-clause-put c = rw c.if-yes.false

pub returns-clause-numbered : goal.returns-clause-numbered
unfolding asked answered
returns-clause-numbered c = λ h. rw (c.if-yes.false, ne_eqb c.args.number 0 (omega arith))
