use Rattle.mark_text.proofs.Laws.Text.{full_put}
use native.Mathlib.Omega.{arith}
use Rattle.mark_text.proofs.write_full.Goals as goal

pub returns : goal.returns
returns c = (full_put _ _ c.put_text-a.ensures c.put_text-b.ensures c.put_pair-c.ensures.0 c.put_byte.ensures, omega (arith, c.put_text-a.ensures.place, c.put_text-b.ensures.place, c.put_pair-c.ensures.1, c.put_byte.ensures.place))
