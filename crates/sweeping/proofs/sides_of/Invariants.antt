use Rattle.plan.specs.Trees.{Column}
use Rattle.looking_sights.specs.Sights.{view_in}
use Prim.Native.Nat.{◌-◌}
use Rattle.sweeping.specs.Swept.{top}
use Rattle.sweeping.proofs.sides_of.Given as goal

abbrev pub invariant-loop-c : goal.invariant-loop-c
invariant-loop-c l = record {
  highs : Column l.high l.c (λ i. (view_in l.sights i).right);
  lows : Column l.low l.c (λ i. top - (view_in l.sights i).x);
}
