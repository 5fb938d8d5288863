use mathlib.Core.Path.{◌≡◌}
use Rattle.copying_records.specs.Parts.{narrow_to}
use Rattle.copying_parts.proofs.form_for.Given as goal

abbrev pub invariant-loop-c : goal.invariant-loop-c
invariant-loop-c l = l.good ≡ narrow_to l.t.width l.t.rank l.c
