use borrow.Author.Tests.{le-leb, lt-leb}
use Rattle.reporting.proofs.long_enough.Goals as goal

pub returns-then-room-lt-MOST_CELLS : goal.returns-then-room-lt-MOST_CELLS
returns-then-room-lt-MOST_CELLS c = rw (lt-leb _ _ c.if-room-lt-MOST_CELLS.true)

pub returns : goal.returns
returns c = rw (le-leb _ _ c.if-room-lt-MOST_CELLS.false)
