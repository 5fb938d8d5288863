use Rattle.looking_columns.proofs.Making.{Edging}
use Rattle.looking_columns.proofs.edges_of.Given as goal

abbrev pub invariant-loop-c : goal.invariant-loop-c
invariant-loop-c l = Edging l.t l.x l.y l.c l.right l.base
