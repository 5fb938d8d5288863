use Rattle.finishing_order.specs.Order.{met}
use mathlib.Core.Path.{ap, ◌∙◌}
use native.Mathlib.Omega.{arith}
use Prim.Native.Nat.{ℕ}
use Rattle.finishing_order.proofs.Laws.Seeking.{seeking, met-here}
use Rattle.finishing_order.proofs.is_finished.Goals as goal

pub links_of-links-requires : goal.links_of-links-requires
links_of-links-requires c = (c).requires

pub seek-s-requires : goal.seek-s-requires
seek-s-requires c =
    (let g = seeking c.args.t.now c.requires _ c.links_of-links.ensures in (g.0, g.1, omega (arith, c.min.ensures)))

pub returns : goal.returns
returns c =
    c.seek-s.ensures.1 ∙ ap (λ (k : ℕ). met c.links_of-links.result c.args.t.now.parent c.args.x k) c.min.ensures ∙ met-here c.args.t.now c.requires _ c.links_of-links.ensures c.args.k c.args.x
