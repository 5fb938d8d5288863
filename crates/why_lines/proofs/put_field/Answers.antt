use native.Mathlib.Omega.{arith}
use Rattle.listing.proofs.Laws.Put.{then}
use Rattle.why_lines.proofs.put_field.Goals as goal

pub returns : goal.returns
returns c = (then c.put_byte-digits.ensures c.put_decimal.ensures.0, omega (arith, c.put_byte-digits.ensures.place, c.put_decimal.ensures.1))
