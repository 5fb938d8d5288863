use Rattle.strips.proofs.Laws.Puts.{Filled}
use Rattle.strips.proofs.fill.Given as goal

abbrev pub invariant-loop-k : goal.invariant-loop-k
invariant-loop-k l = Filled l.initial.bytes l.bytes l.a l.stop l.k
