use Rattle.drawing_spec.specs.Words.{blank}
use Rattle.drawing.specs.Steps.{until}
use lib.ListN.{drop}
use Prim.Native.Nat.{◌+◌}
use mathlib.Core.Path.{◌≡◌}
use Rattle.drawing.proofs.word_end.Given as goal

abbrev pub invariant-loop-i : goal.invariant-loop-i
invariant-loop-i l = l.at + until blank (drop l.at l.line) ≡ l.i + until blank (drop l.i l.line)
