use Rattle.looking_columns.proofs.Making.{Heading}
use Rattle.looking_columns.proofs.heads_of.Given as goal

abbrev pub invariant-loop-c : goal.invariant-loop-c
invariant-loop-c l = Heading l.t l.many l.c l.parent l.middle
