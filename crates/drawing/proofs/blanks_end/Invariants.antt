use Rattle.drawing.specs.Steps.{until, solid}
use lib.ListN.{drop}
use Prim.Native.Nat.{◌+◌}
use mathlib.Core.Path.{◌≡◌}
use Rattle.drawing.proofs.blanks_end.Given as goal

abbrev pub invariant-loop-i : goal.invariant-loop-i
invariant-loop-i l = l.at + until solid (drop l.at l.line) ≡ l.i + until solid (drop l.i l.line)
