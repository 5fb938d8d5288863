use Rattle.decimals.specs.Fixed.{millimetres}
use Rattle.decimals.proofs.put_millimetres.Goals as goal

pub returns : goal.returns
unfolding millimetres
returns c = (rw c.thousandths.ensures at c.put_fixed.ensures.0, c.put_fixed.ensures.1)
