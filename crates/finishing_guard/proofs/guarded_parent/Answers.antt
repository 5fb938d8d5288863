use native.Mathlib.Omega.{arith}
use Rattle.finishing_guard.proofs.Laws.Guard.{tells_no, tells_le}
use Rattle.finishing_guard.proofs.guarded_parent.Goals as goal

pub mark_of-requires : goal.mark_of-requires
mark_of-requires c = (c.requires.0, omega arith)

pub returns-then-y-mark_of-gt-ROWS : goal.returns-then-y-mark_of-gt-ROWS
returns-then-y-mark_of-gt-ROWS c = tells_no (λ g. omega (arith, g.fit, c.mark_of.ensures, c.if-y-mark_of-gt-ROWS.true))

pub mark_of-requires-2 : goal.mark_of-requires-2
mark_of-requires-2 c = (c.requires.0, omega arith)

pub mark_of-requires-3 : goal.mark_of-requires-3
mark_of-requires-3 c = (c.requires.0, omega arith)

pub mark_of-requires-4 : goal.mark_of-requires-4
mark_of-requires-4 c = (c.requires.0, omega arith)

pub returns : goal.returns
returns c = tells_le c.max-2.result 262143 (λ l. record { fit = omega (arith, c.mark_of.ensures, c.if-y-mark_of-gt-ROWS.false); edge = omega (arith, c.mark_of-2.ensures, c.mark_of-3.ensures, c.mark_of-4.ensures, c.max.ensures, c.max-2.ensures, l); past = omega (arith, c.mark_of-2.ensures, c.mark_of-3.ensures, c.mark_of-4.ensures, c.max.ensures, c.max-2.ensures, l); far = omega (arith, c.mark_of-2.ensures, c.mark_of-3.ensures, c.mark_of-4.ensures, c.max.ensures, c.max-2.ensures, l) }) (λ g. omega (arith, g.edge, g.past, g.far, c.mark_of-2.ensures, c.mark_of-3.ensures, c.mark_of-4.ensures, c.max.ensures, c.max-2.ensures))
