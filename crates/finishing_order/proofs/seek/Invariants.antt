use Rattle.finishing_order.specs.Order as order
use Rattle.finishing_order.specs.Order.{nth}
use mathlib.Core.Path.{◌≡◌}
use Rattle.finishing_order.proofs.seek.Given as goal

abbrev pub invariant-loop-i : goal.invariant-loop-i
invariant-loop-i l = (l.cell ≡ nth l.links l.parents l._i) × (l.met ≡ order.met l.links l.parents l.x l._i)
