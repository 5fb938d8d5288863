use mathlib.Core.List.{List}
use mathlib.Core.Path.{◌≡◌}
use Prim.Native.Nat.{ℕ, ◌-◌, ◌<◌}
use lib.ListN.{length, get_or}
use Rattle.plan.specs.Limits.{most_cells}
use Rattle.plan.specs.Plan.{level, row}
use Rattle.plan.specs.Columns.{table}
use Rattle.plan.proofs.Laws.Trees.{seen}
use Rattle.asking.proofs.tree.survey.Given as goal

abbrev pub invariant-loop-c : goal.invariant-loop-c
invariant-loop-c l = record {
  counts_long : length l.counts ≡ most_cells;
  levels_long : length l.levels ≡ most_cells;
  rows_long : length l.rows ≡ most_cells;
  children_seen : (f : ℕ) → f < most_cells → get_or l.counts f 0 ≡ seen l.t.parent (l.c - 1) f;
  levels_found : (ks ws qs : List ℕ) (x : ℕ) → x < l.c → get_or l.levels x 0 ≡ level (table l.t.parent ks ws l.t.depth qs l.t.count) x;
  rows_found : (ks ws qs : List ℕ) (x : ℕ) → x < l.c → get_or l.rows x 0 ≡ row (table l.t.parent ks ws l.t.depth qs l.t.count) x;
}
