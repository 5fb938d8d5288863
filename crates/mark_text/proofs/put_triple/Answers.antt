use Rattle.mark_text.proofs.Laws.Text.{triple-put}
use native.Mathlib.Omega.{arith}
use Rattle.mark_text.proofs.put_triple.Goals as goal

pub returns : goal.returns
returns c = (triple-put _ _ _ c.put_pair-i.ensures.0 c.put_byte-j.ensures c.put_decimal.ensures.0, omega (arith, c.put_pair-i.ensures.1, c.put_byte-j.ensures.place, c.put_decimal.ensures.1))
