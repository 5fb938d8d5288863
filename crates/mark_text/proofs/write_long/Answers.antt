use Rattle.listing.proofs.Laws.Put.{then}
use native.Mathlib.Omega.{arith}
use Rattle.mark_text.proofs.write_long.Goals as goal

pub returns : goal.returns
returns c = (then c.put_text-a.ensures c.put_text.ensures, omega (arith, c.put_text-a.ensures.place, c.put_text.ensures.place))
