use mathlib.Core.Path.{◌≡◌}
use Rattle.rows.specs.Rows.{clash_to}
use Rattle.rows.proofs.clash.Given as goal

abbrev pub invariant-loop-j : goal.invariant-loop-j
invariant-loop-j l = l.g ≡ clash_to l.rows l.k l.x l.j
