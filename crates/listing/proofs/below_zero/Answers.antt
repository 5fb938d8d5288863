use Rattle.listing.proofs.Below.{up_fits, rest-fits, rest-natural, below-fits, below}
use Rattle.listing.proofs.below_zero.Goals as goal

pub overflow_add-result : goal.overflow_add-result
overflow_add-result c = up_fits c.args.x c.ranges.x c.requires

pub overflow_sub-result : goal.overflow_sub-result
overflow_sub-result c = rest-fits c.args.x c.ranges.x c.requires

pub overflow_cast-result : goal.overflow_cast-result
overflow_cast-result c = rest-natural c.args.x c.ranges.x c.requires

pub overflow_add-result-2 : goal.overflow_add-result-2
overflow_add-result-2 c = below-fits c.args.x c.ranges.x c.requires

pub returns : goal.returns
returns c = below c.args.x c.ranges.x c.requires
