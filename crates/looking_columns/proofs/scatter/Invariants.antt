use Rattle.looking_columns.proofs.Scattering.{Scattering}
use Rattle.looking_columns.proofs.scatter.Given as goal

abbrev pub invariant-loop-c : goal.invariant-loop-c
invariant-loop-c l = Scattering l.column l.n l.k l.initial.out l.out l.c
