use Prim.Native.Nat.{◌≤◌}
use lib.ListN.{drop}
use mathlib.Core.Path.{◌≡◌}
use Rattle.outline_spec.specs.Understood.{number_from}
use Rattle.compose_fields.proofs.number_from.Given as goal

abbrev pub invariant-loop-next : goal.invariant-loop-next
invariant-loop-next l = (l.value ≤ l.most) × (number_from l.most 0 (drop l.at l.line) ≡ number_from l.most l.value (drop l.next l.line))
