use Rattle.looking.proofs.Tests.{unasked, asked}
use Rattle.looking.specs.Passes.{pass5}
use borrow.Author.Tests.{lt-leb, le-leb}
use Rattle.looking.proofs.search.pass5.Goals as goal

pub returns-then-w-v : goal.returns-then-w-v
unfolding pass5
returns-then-w-v c = unasked _ (lt-leb _ _ c.if-w-v.true)

pub returns : goal.returns
unfolding pass5
returns c = asked _ (le-leb _ _ c.if-w-v.false)
