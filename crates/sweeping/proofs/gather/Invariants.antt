use Rattle.sweeping.proofs.Passing.{Gathering}
use Rattle.looking_sights.specs.Sights.{view_in}
use Rattle.sweeping.proofs.gather.Given as goal

abbrev pub invariant-loop-c : goal.invariant-loop-c
invariant-loop-c l = Gathering (view_in l.sights) l.n l.initial.column l.c l.column
