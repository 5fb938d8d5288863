use Prim.Native.Nat.{◌-◌}
use mathlib.Core.List.{[]}
use lib.ListN.{length, drop}
use mathlib.Core.Path.{◌≡◌}
use Rattle.outline_spec.specs.Understood.{cells, lines}
use Rattle.compose.specs.State.{rest_of, Well, Tight}
use Rattle.compose.proofs.read_cells.Given as goal

abbrev pub invariant-loop-s : goal.invariant-loop-s
invariant-loop-s l = Well l.s × (rest_of l.text l.letters l.s ≡ cells 0 [] (lines (drop l.from l.text))) × (length l.letters ≡ length l.initial.letters) × Tight l.letters l.s.used l.s.table

abbrev pub decreases-loop-s : goal.decreases-loop-s
decreases-loop-s l = length l.text - l.s.at
