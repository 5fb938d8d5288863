use Rattle.drawing.specs.Steps.{until, feed}
use lib.ListN.{drop}
use Prim.Native.Nat.{◌+◌}
use mathlib.Core.Path.{◌≡◌}
use Rattle.drawing.proofs.line_end.Given as goal

abbrev pub invariant-loop-i : goal.invariant-loop-i
invariant-loop-i l = l.at + until feed (drop l.at l.text) ≡ l.i + until feed (drop l.i l.text)
