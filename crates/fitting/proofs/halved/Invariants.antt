use Rattle.plan.specs.Columns.{table_of}
use Rattle.layout.specs.Laid.{Placeable}
use Rattle.fitting.proofs.Laws.Fitted.{Halving, turns_of}
use Rattle.fitting.proofs.halved.Given as goal

abbrev pub invariant-loop-size : goal.invariant-loop-size
invariant-loop-size l = Placeable l.t l.tops l.scratch × Halving (table_of l.t) l.squares l.low l.size

abbrev pub decreases-loop-size : goal.decreases-loop-size
decreases-loop-size l = turns_of 16 l.size
