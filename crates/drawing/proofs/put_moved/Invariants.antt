use Rattle.drawing_spec.specs.Said.{moved}
use Rattle.positions.specs.Written.{written}
use Rattle.rules.specs.Placement.{placed}
use lib.ListN.{length}
use mathlib.Core.Path.{◌≡◌}
use Rattle.drawing.proofs.put_moved.Given as goal

abbrev pub invariant-loop-c : goal.invariant-loop-c
invariant-loop-c l = (length l.positions ≡ length l.initial.positions) × (l.positions ≡ written l.initial.positions (moved (placed l.places)) l.c)
