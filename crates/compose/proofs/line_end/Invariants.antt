use Prim.Native.Nat.{◌+◌}
use lib.ListN.{drop}
use mathlib.Core.Path.{◌≡◌}
use Rattle.compose.specs.Steps.{line_long}
use Rattle.compose.proofs.line_end.Given as goal

abbrev pub invariant-loop-i : goal.invariant-loop-i
invariant-loop-i l = l.at + line_long (drop l.at l.text) ≡ l.i + line_long (drop l.i l.text)
