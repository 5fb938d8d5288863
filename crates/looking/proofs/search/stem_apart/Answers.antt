use Rattle.looking.proofs.Tests.{unasked, asked, unasked_first, both-no, all_three, last_no}
use Rattle.looking.specs.Passes.{pass4_stem}
use borrow.Author.Tests.{lt-leb, le-leb, lt-ltb, le-ltb}
use Rattle.looking.proofs.search.stem_apart.Goals as goal

pub returns-then-v : goal.returns-then-v
unfolding pass4_stem
returns-then-v c = unasked_first _ _ (le-ltb _ _ c.if-v.true)

pub returns-then-w-v : goal.returns-then-w-v
unfolding pass4_stem
returns-then-w-v c = unasked _ (both-no _ (lt-ltb _ _ c.if-v.false) (le-ltb _ _ c.if-w-v.true))

pub returns-then-v-w : goal.returns-then-v-w
unfolding pass4_stem
returns-then-v-w c = unasked _ (last_no (lt-ltb _ _ c.if-v.false) (lt-ltb _ _ c.if-w-v.false) (lt-leb _ _ c.if-v-w.true))

pub returns : goal.returns
unfolding pass4_stem
returns c = asked _ (all_three (lt-ltb _ _ c.if-v.false) (lt-ltb _ _ c.if-w-v.false) (le-leb _ _ c.if-v-w.false))
