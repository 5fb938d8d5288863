use Prim.Native.Nat.{◌+◌, ◌*◌, ◌≤◌}
use mathlib.Core.Path.{◌≡◌}
use lib.ListN.{length, take}
use Rattle.listing.specs.Put.{Put}
use Rattle.plan.specs.Columns.{table_of}
use Rattle.rules.specs.Placement.{placed}
use Rattle.pen.specs.Strokes.{strokes}
use Rattle.svg.specs.Drawing.{strokes_text}
use Rattle.svg_strokes.specs.Sizes.{stroke_size}
use Rattle.svg.proofs.put_strokes.Given as goal

abbrev pub invariant-loop-s : goal.invariant-loop-s
invariant-loop-s l = (length l.out ≡ length l.initial.out) × (l.next ≤ l.at + stroke_size * l.s) × Put l.initial.out l.at (strokes_text (take l.s (strokes (table_of l.t) (placed l.positions) l.page))) l.out l.next
