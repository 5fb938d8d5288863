use mathlib.Core.Path.{◌≡◌}
use Prim.Native.Nat.{◌≤◌}
use lib.ListN.{drop}
use Rattle.plot_arguments.specs.Lengths.{most, start, run}
use Rattle.plot_arguments.proofs.read_length.Given as goal

abbrev pub invariant-loop-b : goal.invariant-loop-b
invariant-loop-b l = (l.d.value ≤ most) × (run l.d (drop l.b-index l.text) ≡ run start l.text)
