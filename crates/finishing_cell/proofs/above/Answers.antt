use Rattle.finishing_cell.proofs.Laws.Taking.{up_root, up-child}
use mathlib.Core.Path.{sym}
use native.Mathlib.Omega.{arith}
use Rattle.finishing_cell.proofs.above.Goals as goal

pub returns-then-c-eq0 : goal.returns-then-c-eq0
returns-then-c-eq0 c = sym (up_root c.args.parents.now c.args.c c.if-c-eq0.true)

pub returns : goal.returns
returns c = rw c.from.ensures (sym (up-child c.args.parents.now c.args.c (omega (arith, c.if-c-eq0.false))))
