use Rattle.mark_text.proofs.Laws.Text.{pair_put}
use native.Mathlib.Omega.{arith}
use Rattle.mark_text.proofs.put_pair.Goals as goal

pub returns : goal.returns
returns c = (pair_put _ _ c.put_decimal-i.ensures.0 c.put_byte-j.ensures c.put_decimal.ensures.0, omega (arith, c.put_decimal-i.ensures.1, c.put_byte-j.ensures.place, c.put_decimal.ensures.1))
