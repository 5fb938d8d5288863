use Rattle.mark_text.specs.Text.{more}
use borrow.Author.Tests.{lt-ltb, le-ltb}
use Rattle.mark_text.proofs.more.Goals as goal

pub returns-then-n-lt4294967295 : goal.returns-then-n-lt4294967295
unfolding more
returns-then-n-lt4294967295 c = rw (lt-ltb _ 4294967295 c.if-n-lt4294967295.true)

pub returns : goal.returns
unfolding more
returns c = rw (le-ltb _ 4294967295 c.if-n-lt4294967295.false)
