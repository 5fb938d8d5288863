use Rattle.sweeping.proofs.Filling.{Filling}
use Rattle.sweeping.proofs.fill.Given as goal

abbrev pub invariant-loop-y : goal.invariant-loop-y
invariant-loop-y l = Filling l.initial.rows l.from l.to l.x l.v l.y l.rows
