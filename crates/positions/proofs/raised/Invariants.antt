use mathlib.Core.Path.{◌≡◌}
use Prim.Native.Nat.{ℕ}
use lib.ListN.{length}
use Rattle.plan.specs.Limits.{most_cells}
use Rattle.plan.specs.Columns.{table_of}
use Rattle.contours.specs.Sheet.{sheet}
use Rattle.marks.specs.Marks.{Marked}
use Rattle.positions.specs.Raised.{Raised}
use Rattle.positions.proofs.raised.Given as goal

abbrev pub invariant-loop-c : goal.invariant-loop-c
invariant-loop-c l = (length l.xs ≡ most_cells) × ((al : ℕ) → Marked (table_of l.t) al l.marks → Raised l.xs l.c (sheet (table_of l.t) al).x)
