use lib.ListN.{drop}
use mathlib.Core.Path.{◌≡◌}
use Rattle.outline_spec.specs.Outline.{nearest, last_less}
use Rattle.outline_line.proofs.nearest.Given as goal

abbrev pub invariant-loop-i : goal.invariant-loop-i
invariant-loop-i l = nearest l.level l.seen ≡ last_less l.level l.i l.best (drop l.i l.seen)
