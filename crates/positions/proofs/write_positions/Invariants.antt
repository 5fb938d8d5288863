use Rattle.rules.specs.Placement.{Placement}
use Rattle.positions.specs.Raised.{Raised, Topped}
use Rattle.positions.specs.Written.{written}
use mathlib.Core.Path.{◌≡◌}
use lib.ListN.{length}
use Rattle.positions.proofs.write_positions.Given as goal

abbrev pub invariant-loop-c : goal.invariant-loop-c
invariant-loop-c l = (length l.positions ≡ length l.initial.positions) × ((p : Placement) → Raised l.xs l.n p.x → Topped l.tops l.n p.y → l.positions ≡ written l.initial.positions p l.c)
