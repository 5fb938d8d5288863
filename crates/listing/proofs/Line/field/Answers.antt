use native.Mathlib.Omega.{arith}
use Rattle.listing.proofs.Laws.Put.{then}
use Rattle.listing.proofs.Line.field.Goals as goal

pub returns : goal.returns
returns c = (then c.byte.ensures c.decimal.ensures.0, omega (arith, c.byte.ensures.place, c.decimal.ensures.1))
