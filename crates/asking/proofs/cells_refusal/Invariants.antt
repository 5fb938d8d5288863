use Rattle.plan.specs.Questions.{at_each}
use Rattle.plan.specs.Steps.{cells_at}
use mathlib.Core.Path.{◌≡◌}
use Prim.Native.Nat.{◌-◌}
use Rattle.asking.proofs.cells_refusal.Given as goal

abbrev pub invariant-loop-c : goal.invariant-loop-c
invariant-loop-c l = at_each (cells_at l.t.parent l.t.kind l.t.width l.t.depth) 0 l.t.count ≡ at_each (cells_at l.t.parent l.t.kind l.t.width l.t.depth) l.c (l.t.count - l.c)
