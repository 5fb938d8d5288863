use Rattle.season.specs.Pool.{adds}
use Rattle.season.proofs.Laws.Pool.{adds-none}
use Rattle.season.proofs.add.Goals as goal

pub returns-in_err-so_far : goal.returns-in_err-so_far
returns-in_err-so_far c = adds-none _ _ _ (c.in_err-so_far.was) c.from_residual.ensures.1

pub returns-in-Ok : goal.returns-in-Ok
unfolding adds
returns-in-Ok c = rw (c.in_ok-so_far.was, c.in-Ok.is) c.pool.ensures

pub returns-in-Err : goal.returns-in-Err
unfolding adds
returns-in-Err c = rw (c.in_ok-so_far.was, c.in-Err.is)
