use native.Mathlib.Omega.{arith}
use Rattle.outline_spec.specs.Text.{text}
use Rattle.compose_fault.proofs.Laws.Faults.{line-put}
use Rattle.compose_fault.proofs.put_fault.Goals as goal

pub returns : goal.returns
unfolding text
returns c = (line-put _ _ c.put_text-a.ensures c.put_decimal-b.ensures.0 c.put_text-c.ensures (rw c.from.ensures at c.put_advice-d.ensures.0) c.put_byte.ensures, omega (arith, c.put_text-a.ensures.place, c.put_decimal-b.ensures.1, c.put_text-c.ensures.place, c.put_advice-d.ensures.1, c.put_byte.ensures.place))
