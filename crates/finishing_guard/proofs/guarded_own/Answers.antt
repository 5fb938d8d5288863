use native.Mathlib.Omega.{arith}
use Prim.Native.Nat.{◌+◌}
use Rattle.finishing_guard.proofs.Laws.Guard.{tells_no, tells_le}
use Rattle.finishing_guard.proofs.guarded_own.Goals as goal

pub mark_of-requires : goal.mark_of-requires
mark_of-requires c = (c.requires.0, omega arith)

pub mark_of-requires-2 : goal.mark_of-requires-2
mark_of-requires-2 c = (c.requires.0, omega arith)

pub returns-then-mark_of : goal.returns-then-mark_of
returns-then-mark_of c = tells_no (λ g. omega (arith, g.behind, c.mark_of.ensures, c.mark_of-2.ensures, c.if-mark_of.true))

pub overflow_add-result : goal.overflow_add-result
overflow_add-result c = omega (arith, c.requires.1)

pub mark_of-requires-3 : goal.mark_of-requires-3
mark_of-requires-3 c = (c.requires.0, omega arith)

pub returns : goal.returns
returns c =
    tells_le (c.args.y + (c.args.d + 1 + c.mark_of-3.result)) 256 (λ l. record { behind = omega (arith, c.mark_of.ensures, c.mark_of-2.ensures, c.if-mark_of.false); fit = omega (arith, c.mark_of-3.ensures, l) }) (λ g. omega (arith, g.fit, c.mark_of-3.ensures))
