use Rattle.joining_cells.specs.Cells.{completed}
use Rattle.joining_cells.proofs.complete.Goals as goal

pub returns : goal.returns
unfolding completed
returns c = (cc, cc)
