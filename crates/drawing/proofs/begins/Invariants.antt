use Rattle.drawing_spec.specs.Said.{begins}
use lib.ListN.{drop}
use mathlib.Core.Path.{◌≡◌}
use Rattle.drawing.proofs.begins.Given as goal

abbrev pub invariant-loop-i : goal.invariant-loop-i
invariant-loop-i l = begins l.word l.text ≡ begins (drop l.i l.word) (drop l.i l.text)
