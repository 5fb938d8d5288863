use Rattle.mark_text.proofs.Laws.Text.{wide-put}
use native.Mathlib.Omega.{arith}
use Rattle.mark_text.proofs.write_wide.Goals as goal

pub returns : goal.returns
returns c = (wide-put _ _ _ c.put_text-a.ensures c.put_text-b.ensures c.put_triple-c.ensures.0 c.put_byte.ensures, omega (arith, c.put_text-a.ensures.place, c.put_text-b.ensures.place, c.put_triple-c.ensures.1, c.put_byte.ensures.place))
