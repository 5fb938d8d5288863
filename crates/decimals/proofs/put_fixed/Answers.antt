use Rattle.std.proofs.Common.{arith}
use Rattle.decimals.proofs.Laws.Fixed.{fixed-put, fixed_short}
use Rattle.decimals.proofs.put_fixed.Goals as goal

pub returns : goal.returns
returns c =
    let p = fixed-put _ c.put_decimal-a.ensures.0 c.put_byte-b.ensures c.digit.ensures c.put_byte-c.ensures c.digit-2.ensures c.put_byte-d.ensures c.digit-3.ensures c.put_byte.ensures in
    (p, omega (arith, p.place, fixed_short c.ranges.n.fits))
