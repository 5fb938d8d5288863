use mathlib.Core.Path.{sym}
use Rattle.plan.proofs.Laws.Kinds.{bordered-known}
use Rattle.plan.specs.Kinds.{bordered, about}
use borrow.Author.Rules.{rules}
use Rattle.plan.proofs.kinds.bordered.Goals as goal

pub returns-in-Some : goal.returns-in-Some
returns-in-Some c = sym (bordered-known _ _ _ _ c.in-Some.k c.about.ensures c.in-Some.is)

pub returns-in-None : goal.returns-in-None
unfolding bordered about
returns-in-None c = search rules
