use Rattle.walk.specs.Falls.{fallen}
use Rattle.walk.proofs.Laws.Falls.{Falling}
use Rattle.walk.specs.Turns.{stack_of}
use lib.ListN.{length}
use Prim.Native.Nat.{◌-◌, ◌≤◌}
use mathlib.Core.Path.{◌≡◌}
use Rattle.walk.proofs.descend.Given as goal

abbrev pub invariant-loop-n : goal.invariant-loop-n
invariant-loop-n l = Falling l.links l.k l.n (stack_of l.cells l.k) (fallen l.links 32 l.next (stack_of l.initial.cells l.count)) × (length l.cells ≡ 32) × (l.count ≤ l.k)

abbrev pub decreases-loop-n : goal.decreases-loop-n
decreases-loop-n l = 32 - l.k
