use mathlib.Core.Path.{◌≡◌}
use Prim.Native.Nat.{◌-◌}
use Rattle.plan.specs.Questions.{at_each}
use Rattle.plan.specs.Steps.{near_at}
use Rattle.asking.proofs.near_refusal.Given as goal

abbrev pub invariant-loop-c : goal.invariant-loop-c
invariant-loop-c l = at_each (near_at l.positions) 0 l.n ≡ at_each (near_at l.positions) l.c (l.n - l.c)
