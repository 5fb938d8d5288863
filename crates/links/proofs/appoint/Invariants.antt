use mathlib.Core.Path.{◌≡◌}
use Rattle.links.specs.Build.{placed}
use Rattle.links.proofs.appoint.Given as goal

abbrev pub invariant-loop-c : goal.invariant-loop-c
invariant-loop-c l = l.links ≡ placed l.t.kind l.initial.links l.c
