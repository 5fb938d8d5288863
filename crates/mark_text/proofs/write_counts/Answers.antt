use Rattle.mark_text.proofs.Laws.Text.{counts_put}
use native.Mathlib.Omega.{arith}
use Rattle.mark_text.proofs.write_counts.Goals as goal

pub returns : goal.returns
returns c = (counts_put _ c.put_first-at.ensures.0 c.put_last.ensures.0, omega (arith, c.put_first-at.ensures.1, c.put_last.ensures.1))
