use Rattle.plan.specs.Trees.{Column}
use Rattle.plan.specs.Near.{Near}
use Rattle.plan.specs.Limits.{farthest, most_cells}
use Rattle.whole.specs.Bias.{bias}
use lib.IntN.{pos}
use lib.ListN.{get_or}
use Prim.Native.Nat.{◌+◌, ◌*◌, ◌≤◌}
use Rattle.looking_columns.proofs.raised.Given as goal

abbrev pub invariant-loop-c : goal.invariant-loop-c
invariant-loop-c l = (l.c ≤ l.n) × (l.n ≤ most_cells) × (l.offset ≤ 1) × Near l.positions l.n × Column l.out l.c (λ i. bias farthest (get_or l.positions (2 * i + l.offset) (pos 0)))
