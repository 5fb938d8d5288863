use Rattle.looking.specs.Passes.{pass4}
use mathlib.Core.Path.{◌∙◌, sym}
use Rattle.looking.proofs.Tests.{and_no, and_yes, unasked, asked}
use borrow.Author.Tests.{lt-leb, le-leb}
use Rattle.looking.proofs.search.pass4.Goals as goal

pub returns-then-w-v : goal.returns-then-w-v
unfolding pass4
returns-then-w-v c = unasked _ (lt-leb _ _ c.if-w-v.true)

pub returns-then-not-box_apart : goal.returns-then-not-box_apart
unfolding pass4
returns-then-not-box_apart c = and_no _ (sym c.box_apart.ensures ∙ c.if-not-box_apart.true) ∙ asked _ (le-leb _ _ c.if-w-v.false)

pub returns : goal.returns
unfolding pass4
returns c = c.stem_apart.ensures ∙ and_yes _ (sym c.box_apart.ensures ∙ c.if-not-box_apart.false) ∙ asked _ (le-leb _ _ c.if-w-v.false)
