use mathlib.Core.Path.{◌∙◌, sym}
use Rattle.plan.proofs.Laws.Questions.{and_no, and_yes}
use Rattle.plan.specs.Questions.{sized}
use Rattle.asking.proofs.sized.Goals as goal

pub returns-then-not-between : goal.returns-then-not-between
unfolding sized
returns-then-not-between c = sym (and_no _ _ (sym c.between.ensures ∙ c.if-not-between.true))

pub returns : goal.returns
unfolding sized
returns c = c.between-2.ensures ∙ sym (and_yes _ _ (sym c.between.ensures ∙ c.if-not-between.false))
