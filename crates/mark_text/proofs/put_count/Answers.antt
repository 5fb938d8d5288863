use Rattle.listing.proofs.Laws.Put.{then}
use native.Mathlib.Omega.{arith}
use Rattle.mark_text.proofs.put_count.Goals as goal

pub returns : goal.returns
returns c = (then c.put_text-a.ensures c.put_decimal.ensures.0, omega (arith, c.requires.0, c.put_text-a.ensures.place, c.put_decimal.ensures.1))
