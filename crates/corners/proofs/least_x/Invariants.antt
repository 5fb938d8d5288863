use Rattle.corners.proofs.Laws.Corners.{Lowering}
use Rattle.corners.proofs.least_x.Given as goal

abbrev pub invariant-loop-c : goal.invariant-loop-c
invariant-loop-c l = Lowering l.positions l.n l.c l.low
