use mathlib.Core.Path.{◌≡◌}
use Rattle.rows.specs.Rows.{box_to}
use Rattle.rows.proofs.box_rows.Given as goal

abbrev pub invariant-loop-j : goal.invariant-loop-j
invariant-loop-j l = l.rows ≡ box_to l.initial.rows l.k l.w l.j
