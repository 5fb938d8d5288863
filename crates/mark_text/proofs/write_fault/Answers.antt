use Rattle.mark_text.proofs.Laws.Text.{fault-put}
use native.Mathlib.Omega.{arith}
use Rattle.mark_text.proofs.write_fault.Goals as goal

pub returns : goal.returns
returns c = (fault-put _ _ _ c.put_text-a.ensures c.put_text-b.ensures c.put_decimal-c.ensures.0 c.put_text.ensures, omega (arith, c.requires.0, c.put_text-a.ensures.place, c.put_text-b.ensures.place, c.put_decimal-c.ensures.1, c.put_text.ensures.place))
