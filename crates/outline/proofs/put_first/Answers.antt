use native.Mathlib.Omega.{arith}
use Rattle.outline.proofs.Laws.Cells.{first-put}
use Rattle.outline.proofs.put_first.Goals as goal

pub returns : goal.returns
returns c = (first-put _ c.put_text-a.ensures c.put_decimal-b.ensures.0 c.put_byte.ensures, omega (arith, c.put_text-a.ensures.place, c.put_decimal-b.ensures.1, c.put_byte.ensures.place))
