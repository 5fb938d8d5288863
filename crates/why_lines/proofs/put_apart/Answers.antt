use native.Mathlib.Omega.{arith}
use Rattle.listing.proofs.Laws.Put.{then}
use Rattle.why_lines.proofs.put_apart.Goals as goal

pub returns : goal.returns
returns c = (then c.put_byte-digits.ensures c.put_less.ensures.0, omega (arith, c.put_byte-digits.ensures.place, c.put_less.ensures.1))
