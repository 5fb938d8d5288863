use mathlib.Core.Path.{◌∙◌, sym}
use Rattle.plan.specs.Kinds.{about}
use Rattle.plan.proofs.Laws.Kinds.{about-none}
use Rattle.plan.proofs.kinds.about.Goals as goal

pub returns-in-1 : goal.returns-in-1
unfolding about
returns-in-1 c = c.entry.ensures ∙ rw c.in-1.is

pub returns-in-2 : goal.returns-in-2
unfolding about
returns-in-2 c = c.entry-in-2.ensures ∙ rw c.in-2.is

pub returns-in-3 : goal.returns-in-3
unfolding about
returns-in-3 c = c.entry-in-3.ensures ∙ rw c.in-3.is

pub returns-in-4 : goal.returns-in-4
unfolding about
returns-in-4 c = c.entry-in-4.ensures ∙ rw c.in-4.is

pub returns-in-5 : goal.returns-in-5
unfolding about
returns-in-5 c = c.entry-in-5.ensures ∙ rw c.in-5.is

pub returns-in_default : goal.returns-in_default
returns-in_default c = let r = c.in_default.in_default-own.rest in sym (about-none _ r.0.0.0.0.1 r.0.0.0.1 r.0.0.1 r.0.1 r.1)
