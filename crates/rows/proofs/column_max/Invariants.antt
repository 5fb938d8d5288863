use mathlib.Core.Path.{◌≡◌}
use Rattle.rows.specs.Rows.{max_to}
use Rattle.rows.proofs.column_max.Given as goal

abbrev pub invariant-loop-j : goal.invariant-loop-j
invariant-loop-j l = l.g ≡ max_to l.rows l.k l.j
