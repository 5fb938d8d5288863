use Rattle.looking.specs.Passes.{pass3}
use mathlib.Core.Path.{◌∙◌, sym}
use Rattle.looking.proofs.Tests.{and_no, and_yes}
use Rattle.looking.proofs.search.pass3.Goals as goal

pub returns-then-not-ends_before : goal.returns-then-not-ends_before
unfolding pass3
returns-then-not-ends_before c = and_no _ (sym c.ends_before.ensures ∙ c.if-not-ends_before.true)

pub returns : goal.returns
unfolding pass3
returns c = c.starts_after.ensures ∙ and_yes _ (sym c.ends_before.ensures ∙ c.if-not-ends_before.false)
