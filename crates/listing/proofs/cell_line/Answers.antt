use native.Mathlib.Omega.{arith}
use mathlib.Core.Path.{◌∙◌}
use mir.Syntax.{w32}
use mir.ValLaws.{to_z-of_z}
use Rattle.listing.proofs.Laws.Line.{cell_line-is}
use Rattle.listing.proofs.Laws.Put.{then, line-ended}
use Rattle.listing.proofs.cell_line.Goals as goal

pub returns : goal.returns
returns c = line-ended c.empty-line.ensures.0 (then (then (then (then (then (then c.decimal.ensures.0 c.signed_field.ensures.0) c.signed_field-2.ensures.0) c.field.ensures.0) c.field-2.ensures.0) c.label.ensures.0) c.byte.ensures) (omega arith) (cell_line-is _ _ _ _ _ _ ∙ rw (to_z-of_z w32 _ c.ranges.x, to_z-of_z w32 _ c.ranges.y))
