use Rattle.why_ties.proofs.Chains.{and_no, and_yes}
use Rattle.why_ties.specs.Ties.{tie5}
use borrow.Author.Tests.{eq-eqb, ne_eqb}
use Rattle.why_ties.proofs.tied5.Goals as goal

pub returns-then-v-w : goal.returns-then-v-w
unfolding tie5
returns-then-v-w c = and_no _ (ne_eqb _ _ c.if-v-w.true)

pub returns : goal.returns
unfolding tie5
returns c = and_yes _ (eq-eqb _ _ c.if-v-w.false)
