use Rattle.sweeping.proofs.Passing.{Upto}
use Rattle.looking_sights.specs.Sights.{view_in}
use Rattle.sweeping.specs.Swept.{AloneAt}
use Rattle.sweeping.proofs.alone.Given as goal

abbrev pub invariant-loop-c : goal.invariant-loop-c
invariant-loop-c l = Upto (AloneAt (view_in l.sights)) l.c
