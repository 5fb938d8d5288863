use Rattle.mark_text.proofs.Laws.Text.{first-put}
use native.Mathlib.Omega.{arith}
use Rattle.mark_text.proofs.put_first.Goals as goal

pub returns : goal.returns
returns c = (first-put _ c.put_count-a.ensures.0 c.put_count-b.ensures.0 c.put_count.ensures.0, omega (arith, c.put_count-a.ensures.1, c.put_count-b.ensures.1, c.put_count.ensures.1))
