use mathlib.Core.Path.{◌≡◌}
use Prim.Native.Nat.{◌-◌}
use Rattle.plan.specs.Questions.{at_each}
use Rattle.plan.specs.Steps.{children_at}
use Rattle.asking.proofs.children_refusal.Given as goal

abbrev pub invariant-loop-c : goal.invariant-loop-c
invariant-loop-c l = at_each (children_at l.kinds l.counts) 0 l.n ≡ at_each (children_at l.kinds l.counts) l.c (l.n - l.c)
