use native.Mathlib.Omega.{arith}
use Rattle.listing.proofs.Laws.Line.{end_line-is}
use Rattle.listing.proofs.Laws.Put.{then, line-ended}
use Rattle.listing.proofs.end_line.Goals as goal

pub returns : goal.returns
returns c = line-ended c.empty-line.ensures.0 (then (then (then c.word.ensures c.field.ensures.0) c.field-2.ensures.0) c.byte.ensures) (omega arith) (end_line-is _ _ _)
