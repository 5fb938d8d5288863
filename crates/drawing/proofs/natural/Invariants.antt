use Rattle.drawing.proofs.Laws.Numbers.{Going}
use Rattle.drawing.proofs.natural.Given as goal

abbrev pub invariant-loop-i : goal.invariant-loop-i
invariant-loop-i l = Going l.word l.a l.i
