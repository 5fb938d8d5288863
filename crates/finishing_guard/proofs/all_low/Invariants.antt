use Rattle.finishing_guard.proofs.Laws.Guard.{Upto}
use Rattle.finishing_guard.proofs.all_low.Given as goal

abbrev pub invariant-loop-i : goal.invariant-loop-i
invariant-loop-i l = Upto l.xs l.greatest l.i
