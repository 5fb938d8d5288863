use mathlib.Core.Path.{◌≡◌}
use Rattle.rows.specs.Rows.{upto_rows}
use Rattle.rows.proofs.join_upto.Given as goal

abbrev pub invariant-loop-j : goal.invariant-loop-j
invariant-loop-j l = l.rows ≡ upto_rows l.initial.rows l.at l.h l.g l.j
