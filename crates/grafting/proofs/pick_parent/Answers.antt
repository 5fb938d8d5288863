use native.Mathlib.Omega.{arith}
use Rattle.grafting.proofs.Laws.Grafted.{parent-first, parent_root, parent-second}
use Rattle.grafting.proofs.pick_parent.Goals as goal

pub returns-then-i-n : goal.returns-then-i-n
returns-then-i-n c = parent-first _ _ _ _ _ c.if-i-n.true

pub returns-then-i-n-2 : goal.returns-then-i-n-2
returns-then-i-n-2 c = parent_root _ _ _ _ _ c.if-i-n.false c.if-i-n-2.true

pub overflow_add-result : goal.overflow_add-result
overflow_add-result c = omega (arith, c.requires.3 (omega (arith, c.if-i-n.false, c.if-i-n-2.false)))

pub returns : goal.returns
returns c = parent-second _ _ _ _ _ c.if-i-n.false c.if-i-n-2.false
