use Rattle.spans.proofs.Folding.{Folding}
use Rattle.spans.proofs.measure.Given as goal

abbrev pub invariant-loop-c : goal.invariant-loop-c
invariant-loop-c l = Folding l.t l.c l.size
