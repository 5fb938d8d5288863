use mir.Syntax.{w32}
use mir.ValLaws.{to_z-of_z}
use native.Mathlib.Omega.{arith}
use Rattle.listing.proofs.Laws.Put.{then}
use Rattle.listing.proofs.Line.signed_field.Goals as goal

pub returns : goal.returns
returns c = (then c.byte.ensures (rw (to_z-of_z w32 _ c.ranges.x) at c.signed.ensures.0), omega (arith, c.byte.ensures.place, c.signed.ensures.1))
