use native.Mathlib.Omega.{arith}
use Rattle.listing.proofs.Below.{negative, signed_negative, natural, signed-natural}
use Rattle.listing.proofs.Line.signed.Goals as goal

pub below_zero-requires : goal.below_zero-requires
below_zero-requires c = negative _ c.ranges.x c.if-x-lt0.true

pub returns-then-x-lt0 : goal.returns-then-x-lt0
returns-then-x-lt0 c = (signed_negative _ c.ranges.x c.if-x-lt0.true c.below_zero.ensures c.byte.ensures c.decimal.ensures.0, omega (arith, c.byte.ensures.place, c.decimal.ensures.1))

pub overflow_cast-x : goal.overflow_cast-x
overflow_cast-x c = natural _ c.ranges.x c.if-x-lt0.false

pub returns-else-x-lt0 : goal.returns-else-x-lt0
returns-else-x-lt0 c = (signed-natural _ c.ranges.x c.if-x-lt0.false c.decimal-else-x-lt0.ensures.0, omega (arith, c.decimal-else-x-lt0.ensures.1))
