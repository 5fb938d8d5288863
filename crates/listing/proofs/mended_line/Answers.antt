use native.Mathlib.Omega.{arith}
use Rattle.listing.proofs.Laws.Line.{mended_line-is}
use Rattle.listing.proofs.Laws.Put.{then, line-ended}
use Rattle.listing.proofs.mended_line.Goals as goal

pub returns : goal.returns
returns c = line-ended c.empty-line.ensures.0 (then (then (then (then (then c.decimal.ensures.0 c.field.ensures.0) c.field-2.ensures.0) c.field-3.ensures.0) c.field-4.ensures.0) c.byte.ensures) (omega arith) (mended_line-is _ _ _ _ _)
