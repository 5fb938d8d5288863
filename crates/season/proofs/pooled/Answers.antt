use Rattle.season.specs.Pool.{pooled}
use Rattle.season.proofs.pooled.Goals as goal

pub returns : goal.returns
unfolding pooled
returns c = cc (c.narrower.ensures, c.max.ensures, c.quotient.ensures, c.remainder.ensures)
