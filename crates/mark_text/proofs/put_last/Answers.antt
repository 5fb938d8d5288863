use Rattle.mark_text.proofs.Laws.Text.{last_put}
use native.Mathlib.Omega.{arith}
use Rattle.mark_text.proofs.put_last.Goals as goal

pub returns : goal.returns
returns c = (last_put _ c.put_count-a.ensures.0 c.put_count-b.ensures.0 c.put_count-c.ensures.0 c.put_byte.ensures, omega (arith, c.put_count-a.ensures.1, c.put_count-b.ensures.1, c.put_count-c.ensures.1, c.put_byte.ensures.place))
