use native.Mathlib.Omega.{arith}
use Rattle.listing.proofs.Laws.Put.{then}
use Rattle.join_text.proofs.put_named.Goals as goal

pub returns : goal.returns
returns c = (then c.put_text-at.ensures (rw (c.from.ensures, c.from-2.ensures) at c.put_refused.ensures.0), omega (arith, c.requires.0, c.put_text-at.ensures.place, c.put_refused.ensures.1))
