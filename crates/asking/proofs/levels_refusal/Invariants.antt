use mathlib.Core.Path.{◌≡◌}
use Prim.Native.Nat.{◌-◌}
use Rattle.plan.specs.Questions.{at_each}
use Rattle.plan.specs.Steps.{levels_at}
use Rattle.asking.proofs.levels_refusal.Given as goal

abbrev pub invariant-loop-c : goal.invariant-loop-c
invariant-loop-c l = at_each (levels_at l.levels) 0 l.n ≡ at_each (levels_at l.levels) l.c (l.n - l.c)
