-- What arguments say, row by row. Assumes nothing.
use Rattle.plot_arguments.specs.Worked.{Rows}
use Rattle.plot_arguments.proofs.Laws.Worked as laws

pub worked : Rows
worked = laws.worked
