use Rattle.why_ties.proofs.Chains.{and_no, and_yes}
use Rattle.why_ties.specs.Ties.{tie4_box}
use mathlib.Core.Path.{◌∙◌}
use borrow.Author.Tests.{eq-eqb, le-leb, lt-leb, ne_eqb}
use Rattle.why_ties.proofs.tied4_box.Goals as goal

pub returns-then-v-w : goal.returns-then-v-w
unfolding tie4_box
returns-then-v-w c = and_no _ (ne_eqb _ _ c.if-v-w.true)

pub returns-then-w-v : goal.returns-then-w-v
unfolding tie4_box
returns-then-w-v c = and_no _ (lt-leb _ _ c.if-w-v.true) ∙ and_yes _ (eq-eqb _ _ c.if-v-w.false)

pub returns-then-w-v-2 : goal.returns-then-w-v-2
unfolding tie4_box
returns-then-w-v-2 c = and_no _ (lt-leb _ _ c.if-w-v-2.true) ∙ and_yes _ (le-leb _ _ c.if-w-v.false) ∙ and_yes _ (eq-eqb _ _ c.if-v-w.false)

pub returns : goal.returns
unfolding tie4_box
returns c = and_yes _ (le-leb _ _ c.if-w-v-2.false) ∙ and_yes _ (le-leb _ _ c.if-w-v.false) ∙ and_yes _ (eq-eqb _ _ c.if-v-w.false)
