use Rattle.plan.proofs.Laws.Kinds.{allows-known}
use Rattle.plan.specs.Kinds.{allows, about}
use mathlib.Core.Path.{◌∙◌, sym}
use borrow.Author.Rules.{rules}
use Rattle.plan.proofs.kinds.allows.Goals as goal

pub returns-in-Some : goal.returns-in-Some
unfolding allows
returns-in-Some c = c.between.ensures ∙ sym (allows-known _ _ _ c.in-Some.k c.about.ensures c.in-Some.is)

pub returns-in-None : goal.returns-in-None
unfolding allows about
returns-in-None c = search rules
