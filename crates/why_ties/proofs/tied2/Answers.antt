use Rattle.why_ties.proofs.Chains.{and_no, and_yes, or_no, or_yes}
use Rattle.why_ties.specs.Ties.{tie2}
use mathlib.Core.Path.{◌∙◌, sym}
use borrow.Author.Tests.{eq-eqb, ne_eqb}
use Rattle.why_ties.proofs.tied2.Goals as goal

pub returns-then-v-w : goal.returns-then-v-w
unfolding tie2
returns-then-v-w c = and_no _ (ne_eqb _ _ c.if-v-w.true)

pub returns-then-appoints : goal.returns-then-appoints
unfolding tie2
returns-then-appoints c = or_yes _ (sym c.appoints.ensures ∙ c.if-appoints.true) ∙ and_yes _ (eq-eqb _ _ c.if-v-w.false)

pub returns : goal.returns
unfolding tie2
returns c = c.appoints-2.ensures ∙ or_no _ (sym c.appoints.ensures ∙ c.if-appoints.false) ∙ and_yes _ (eq-eqb _ _ c.if-v-w.false)
