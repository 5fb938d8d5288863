use Prim.Native.Nat.{◌+◌, ◌*◌, ◌≤◌}
use mathlib.Core.Path.{◌≡◌}
use lib.ListN.{length}
use Rattle.listing.specs.Put.{Put}
use Rattle.plan.specs.Columns.{table_of}
use Rattle.rules.specs.Placement.{placed}
use Rattle.pen.specs.Strokes.{strokes}
use Rattle.svg.specs.Drawing.{labels_text}
use Rattle.svg_labels.specs.Sizes.{label_size}
use Rattle.svg.proofs.put_labels.Given as goal

abbrev pub invariant-loop-c : goal.invariant-loop-c
invariant-loop-c l = (length l.out ≡ length l.initial.out) × (l.next ≤ l.at + label_size * l.c) × Put l.initial.out l.at (labels_text (strokes (table_of l.t) (placed l.positions) l.page) l.file l.c) l.out l.next
