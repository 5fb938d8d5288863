use native.Mathlib.Omega.{arith}
use Rattle.summary.proofs.Laws.Summary.{named_put}
use Rattle.summary.proofs.write_named.Goals as goal

pub returns : goal.returns
returns c = (named_put _ _ c.put_text-a.ensures c.put_byte-b.ensures c.put_refused.ensures.0, omega (arith, c.put_refused.ensures.1))
