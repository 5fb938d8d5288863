use Rattle.plot_arguments.specs.Lengths.{finish}
use Rattle.plot_arguments.proofs.finish.Goals as goal

pub returns-then-d : goal.returns-then-d
unfolding finish
returns-then-d c = rw c.if-d.true

pub returns-then-d-2 : goal.returns-then-d-2
unfolding finish
returns-then-d-2 c = rw (c.if-d.false, c.if-d-2.true, c.thousandths.ensures)

pub returns : goal.returns
unfolding finish
returns c = rw (c.if-d.false, c.if-d-2.false)
