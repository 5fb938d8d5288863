use Rattle.looking.proofs.Tests.{unasked_first, unasked_second, asked-both}
use Rattle.looking.specs.Passes.{pass3_starts}
use borrow.Author.Tests.{lt-leb, le-leb, lt-ltb, le-ltb}
use Rattle.looking.proofs.search.starts_after.Goals as goal

pub returns-then-w-v : goal.returns-then-w-v
unfolding pass3_starts
returns-then-w-v c = unasked_first _ _ (lt-leb _ _ c.if-w-v.true)

pub returns-then-v-w : goal.returns-then-v-w
unfolding pass3_starts
returns-then-v-w c = unasked_second _ (le-leb _ _ c.if-w-v.false) (le-ltb _ _ c.if-v-w.true)

pub returns : goal.returns
unfolding pass3_starts
returns c = asked-both _ (le-leb _ _ c.if-w-v.false) (lt-ltb _ _ c.if-v-w.false)
