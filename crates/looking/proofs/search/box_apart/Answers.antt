use Rattle.looking.proofs.Tests.{unasked_first, unasked_second, asked-both}
use Rattle.looking.specs.Passes.{pass4_box}
use borrow.Author.Tests.{lt-leb, le-leb}
use Rattle.looking.proofs.search.box_apart.Goals as goal

pub returns-then-w-v : goal.returns-then-w-v
unfolding pass4_box
returns-then-w-v c = unasked_first _ _ (lt-leb _ _ c.if-w-v.true)

pub returns-then-v-w : goal.returns-then-v-w
unfolding pass4_box
returns-then-v-w c = unasked_second _ (le-leb _ _ c.if-w-v.false) (lt-leb _ _ c.if-v-w.true)

pub returns : goal.returns
unfolding pass4_box
returns c = asked-both _ (le-leb _ _ c.if-w-v.false) (le-leb _ _ c.if-v-w.false)
