use mathlib.Core.Path.{◌≡◌}
use Rattle.rows.specs.Rows.{beyond_rows}
use Rattle.rows.proofs.join_beyond.Given as goal

abbrev pub invariant-loop-j : goal.invariant-loop-j
invariant-loop-j l = l.rows ≡ beyond_rows l.initial.rows l.at l.x l.j
