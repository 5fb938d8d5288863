use native.Mathlib.Omega.{arith}
use Rattle.outline_line.proofs.Laws.Written.{border-known, border_unknown}
use Rattle.outline_line.proofs.natural.Goals as goal

pub returns-in-Some : goal.returns-in-Some
returns-in-Some c = omega (arith, border-known _ _ _ c.about.ensures c.in-Some.is)

pub returns-in-None : goal.returns-in-None
returns-in-None c = omega (arith, border_unknown _ _ c.about.ensures c.in-None.is)
