use mathlib.Core.Path.{◌≡◌}
use Rattle.links.specs.Build.{counted}
use Rattle.links.proofs.number_siblings.Given as goal

abbrev pub invariant-loop-c : goal.invariant-loop-c
invariant-loop-c l = l.links ≡ counted l.initial.links l.c
