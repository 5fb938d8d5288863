use Prim.Native.Nat.{◌-◌, ◌<◌}
use mathlib.Core.Path.{◌≡◌}
use Rattle.links.specs.Build.{chained}
use Rattle.links.proofs.chain_siblings.Given as goal

abbrev pub invariant-loop-c : goal.invariant-loop-c
invariant-loop-c l = (0 < l.c) × (l.links ≡ chained l.t.parent l.t.rank l.initial.links (l.t.count - l.c) l.c)
