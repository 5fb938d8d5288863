use mathlib.Core.Path.{◌≡◌}
use Rattle.planfile_spec.specs.Reading.{column}
use Rattle.grafting.specs.Grafted.{picked_parent}
use Rattle.grafting.proofs.join_parents.Given as goal

abbrev pub invariant-loop-i : goal.invariant-loop-i
invariant-loop-i l = l.all ≡ column (picked_parent l.n l.cell l.first l.second) l.i
