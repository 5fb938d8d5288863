use Rattle.sweeping.proofs.Filling.{Sweeping}
use Rattle.looking_sights.specs.Sights.{view_in}
use Rattle.sweeping.proofs.sweep.Given as goal

abbrev pub invariant-loop-k : goal.invariant-loop-k
invariant-loop-k l = Sweeping (view_in l.sights) l.n l.last l.k l.rows
