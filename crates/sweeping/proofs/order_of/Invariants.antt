use Rattle.sweeping.proofs.Passing.{Ordering}
use Rattle.looking_sights.specs.Sights.{view_in}
use Rattle.sweeping.proofs.order_of.Given as goal

abbrev pub invariant-loop-c : goal.invariant-loop-c
invariant-loop-c l = Ordering (view_in l.sights) l.n l.c l.order
