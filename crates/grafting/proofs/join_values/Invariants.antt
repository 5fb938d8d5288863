use mathlib.Core.Path.{◌≡◌}
use Rattle.grafting.specs.Grafted.{picked_of, column_of}
use Rattle.grafting.proofs.join_values.Given as goal

abbrev pub invariant-loop-i : goal.invariant-loop-i
invariant-loop-i g l = l.all ≡ column_of l.fn.zero (picked_of l.fn.zero l.n l.first l.second) l.i
