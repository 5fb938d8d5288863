use native.Mathlib.Omega.{arith}
use Rattle.outline_line.proofs.Laws.Written.{field-none, field_put}
use Rattle.outline_line.proofs.put_field.Goals as goal

pub returns-then-value-usual : goal.returns-then-value-usual
returns-then-value-usual c = (field-none _ _ _ _ _ c.if-value-usual.true, omega arith)

pub returns : goal.returns
returns c = (field_put _ _ _ c.if-value-usual.false c.put_text-next.ensures c.put_decimal.ensures.0, omega (arith, c.put_text-next.ensures.place, c.put_decimal.ensures.1))
