use Rattle.spans.proofs.Sinking.{Sinking}
use Rattle.spans.proofs.sink.Given as goal

abbrev pub invariant-loop-c : goal.invariant-loop-c
invariant-loop-c l = Sinking l.t l.initial.bottoms l.c l.bottoms
