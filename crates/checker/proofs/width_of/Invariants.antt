use Rattle.checker.proofs.Widening.{Widening}
use Rattle.looking_sights.specs.Sights.{view_in}
use Rattle.checker.proofs.width_of.Given as goal

abbrev pub invariant-loop-c : goal.invariant-loop-c
invariant-loop-c l = Widening (view_in l.sights) l.n l.c l.high l.low
