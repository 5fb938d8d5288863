use borrow.Author.Tests.{lt-ltb, le-ltb}
use Rattle.plot_arguments.specs.Lengths.{with_digit}
use Rattle.plot_arguments.proofs.with_digit.Goals as goal

pub returns-then-d-gt3 : goal.returns-then-d-gt3
unfolding with_digit
returns-then-d-gt3 c = rw (lt-ltb _ _ c.if-d-gt3.true) c.broken.ensures

pub returns : goal.returns
unfolding with_digit
returns c = rw (le-ltb _ _ c.if-d-gt3.false, c.min-value.ensures, c.from.ensures, c.next_place-place.ensures)
