use native.Mathlib.Omega.{arith}
use Rattle.why_lines.proofs.Laws.Printed.{less_put, more-put}
use Rattle.why_lines.proofs.put_less.Goals as goal

pub returns-then-a-b : goal.returns-then-a-b
returns-then-a-b c = (less_put _ _ c.if-a-b.true c.put_byte-digits.ensures c.put_decimal.ensures.0, omega (arith, c.put_byte-digits.ensures.place, c.put_decimal.ensures.1))

pub returns : goal.returns
returns c = (more-put _ _ c.if-a-b.false c.put_decimal-2.ensures.0, omega (arith, c.put_decimal-2.ensures.1))
