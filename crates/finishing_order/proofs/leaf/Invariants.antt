use Rattle.finishing_order.specs.Order.{leaf}
use Rattle.links.specs.Links.{link}
use mathlib.Core.Path.{◌≡◌}
use Prim.Native.Nat.{◌-◌, ◌<◌}
use Rattle.finishing_order.proofs.leaf.Given as goal

abbrev pub invariant-loop-s : goal.invariant-loop-s
invariant-loop-s l = (l.a < l.n) × (l.s ≡ link l.links l.a 0) × (leaf l.links l.a ≡ leaf l.links l.c)

abbrev pub decreases-loop-s : goal.decreases-loop-s
decreases-loop-s l = 256 - l.a
