use Rattle.whole.proofs.Machine.{difference_fits, difference_is}
use Rattle.whole.proofs.difference.Goals as goal

pub overflow_sub-result : goal.overflow_sub-result
overflow_sub-result c = difference_fits c.args.a c.args.b c.requires.0 c.requires.1

pub returns : goal.returns
returns c = difference_is c.args.a c.args.b c.requires.0 c.requires.1
