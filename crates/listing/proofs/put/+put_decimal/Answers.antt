use Rattle.std.proofs.Common.{arith}
use Rattle.listing.proofs.Laws.Printed.{nineteen, twenty}
use Rattle.listing.proofs.Laws.Put.{decimal_digit, decimal_last}
use Rattle.listing.proofs.put.+put_decimal.Goals as goal

pub returns-then-n-lt10 : goal.returns-then-n-lt10
returns-then-n-lt10 t c = (decimal_digit c.if-n-lt10.true c.digit.ensures c.put_byte.ensures, omega (arith, c.put_byte.ensures.place))

pub put_byte-requires-2 : goal.put_byte-requires-2
put_byte-requires-2 t c = omega (arith, nineteen c.if-n-lt10.false c.ranges.n.fits, c.put_decimal-last.ensures.0.place)

pub returns : goal.returns
returns t c = let p = decimal_last c.if-n-lt10.false c.put_decimal-last.ensures.0 c.digit-2.ensures c.put_byte-2.ensures in
    (p, omega (arith, p.place, twenty c.ranges.n.fits))
