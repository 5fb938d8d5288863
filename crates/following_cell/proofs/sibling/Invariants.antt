use mathlib.Core.Path.{◌≡◌}
use Prim.Native.Nat.{◌-◌}
use Rattle.following_cell.specs.Opening.{hops, Row}
use Rattle.following_cell.proofs.sibling.Given as goal

abbrev pub invariant-loop-i : goal.invariant-loop-i
invariant-loop-i l = Row l.links l.s × (hops l.links l.s (l.a - l._i) ≡ hops l.links l.n l.a)
