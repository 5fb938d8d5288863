use Rattle.looking_columns.proofs.Making.{Duing}
use Rattle.looking_columns.proofs.dues.Given as goal

abbrev pub invariant-loop-c : goal.invariant-loop-c
invariant-loop-c l = Duing l.t l.base l.c l.due
