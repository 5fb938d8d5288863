use mathlib.Core.Path.{◌≡◌}
use Prim.Native.Nat.{◌-◌}
use Rattle.plan.specs.Questions.{at_each}
use Rattle.plan.specs.Steps.{rows_at}
use Rattle.asking.proofs.rows_refusal.Given as goal

abbrev pub invariant-loop-c : goal.invariant-loop-c
invariant-loop-c l = at_each (rows_at l.rows l.depths) 0 l.n ≡ at_each (rows_at l.rows l.depths) l.c (l.n - l.c)
