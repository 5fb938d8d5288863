use native.Mathlib.Omega.{arith}
use Rattle.listing.proofs.Laws.Printed.{ten}
use Rattle.listing.proofs.Line.decimal.Goals as goal

pub returns : goal.returns
returns c =
    let p = rw c.from.ensures at c.put_decimal-self.ensures.0 in
    (p, omega (arith, p.place, ten c.ranges.n.fits))
