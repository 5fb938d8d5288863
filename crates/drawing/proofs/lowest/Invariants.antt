use Rattle.drawing_spec.specs.Said.{lowest}
use Prim.Native.Nat.{◌-◌}
use mathlib.Core.Path.{◌≡◌}
use Rattle.drawing.proofs.lowest.Given as goal

abbrev pub invariant-loop-c : goal.invariant-loop-c
invariant-loop-c l = lowest l.given 0 l.n ≡ lowest l.given l.c (l.n - l.c)
