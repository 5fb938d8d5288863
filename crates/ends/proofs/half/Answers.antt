use Rattle.ends.proofs.Laws.Halves.{close_half}
use native.Mathlib.Omega.{arith}
use Rattle.ends.proofs.half.Goals as goal

pub returns-then-width-eq0 : goal.returns-then-width-eq0
returns-then-width-eq0 c = close_half _ _ (record { low = omega arith; high = omega arith; odd = λ o. omega (arith, c.if-width-eq0.true) })

pub returns-then-down-eq0 : goal.returns-then-down-eq0
returns-then-down-eq0 c = close_half _ _ (record { low = omega arith; high = omega arith; odd = λ o. omega (arith, c.if-down-eq0.true) })

pub returns : goal.returns
returns c = close_half _ _ (record { low = omega (arith, c.if-width-eq0.false); high = omega arith; odd = λ o. omega (arith, c.if-down-eq0.false) })
