use Rattle.mark_text.proofs.Laws.Text.{missing_put}
use native.Mathlib.Omega.{arith}
use Rattle.mark_text.proofs.write_missing.Goals as goal

pub returns : goal.returns
returns c = (missing_put _ _ c.put_text-a.ensures c.put_text-b.ensures c.put_decimal-c.ensures.0 c.put_text.ensures, omega (arith, c.put_text-a.ensures.place, c.put_text-b.ensures.place, c.put_decimal-c.ensures.1, c.put_text.ensures.place))
