use Rattle.whole.proofs.Machine.{low_fits, low_fails, high_fails, passes}
use Rattle.whole.proofs.within.Goals as goal

pub overflow_sub-high : goal.overflow_sub-high
overflow_sub-high c = low_fits c.args.far c.requires c.args.x c.ranges.x

pub returns-then-x-high : goal.returns-then-x-high
returns-then-x-high c = low_fails _ c.requires _ c.ranges.x c.if-x-high.true

pub returns-then-high-x : goal.returns-then-high-x
returns-then-high-x c = high_fails _ c.requires _ c.ranges.x c.if-high-x.true

pub returns : goal.returns
returns c = passes _ c.requires _ c.ranges.x c.if-x-high.false c.if-high-x.false
