use Rattle.mark_text.proofs.Laws.Text.{twice_put}
use native.Mathlib.Omega.{arith}
use Rattle.mark_text.proofs.write_twice.Goals as goal

pub returns : goal.returns
returns c = (twice_put _ _ _ c.write_fault-a.ensures.0 c.put_decimal-b.ensures.0 c.put_text.ensures, omega (arith, c.write_fault-a.ensures.1, c.put_decimal-b.ensures.1, c.put_text.ensures.place))
