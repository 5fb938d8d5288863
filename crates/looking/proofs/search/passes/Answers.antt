use Rattle.looking.proofs.Tests.{no_rule}
use Rattle.looking.specs.Passes.{passes}
use Rattle.looking.proofs.search.passes.Goals as goal

pub returns-then-rule-eq1 : goal.returns-then-rule-eq1
unfolding passes
returns-then-rule-eq1 c = rw c.if-rule-eq1.true c.pass1.ensures

pub returns-then-rule-eq2 : goal.returns-then-rule-eq2
unfolding passes
returns-then-rule-eq2 c = rw c.if-rule-eq2.true c.pass2.ensures

pub returns-then-rule-eq3 : goal.returns-then-rule-eq3
unfolding passes
returns-then-rule-eq3 c = rw c.if-rule-eq3.true c.pass3.ensures

pub returns-then-rule-eq4 : goal.returns-then-rule-eq4
unfolding passes
returns-then-rule-eq4 c = rw c.if-rule-eq4.true c.pass4.ensures

pub returns-then-rule-eq5 : goal.returns-then-rule-eq5
unfolding passes
returns-then-rule-eq5 c = rw c.if-rule-eq5.true c.pass5.ensures

pub returns : goal.returns
returns c = no_rule _ _ _ _ _ _ c.if-rule-eq1.false c.if-rule-eq2.false c.if-rule-eq3.false c.if-rule-eq4.false c.if-rule-eq5.false
