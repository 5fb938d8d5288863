use Rattle.finishing_order.specs.Order.{leaf}
use Rattle.finishing_order.proofs.Laws.Order.{leaf-more, down-stop}
use Rattle.links.specs.Links.{link}
use mathlib.Core.Path.{◌≡◌, refl, sym, ap, ◌∙◌}
use Prim.Native.Nat.{ℕ, ◌-◌, ◌<◌}
use native.Mathlib.Omega.{arith}
use Rattle.finishing_order.proofs.leaf.Goals as goal

pub link_of-s-requires : goal.link_of-s-requires
link_of-s-requires c = (omega (arith, c.requires.0.room, c.requires.0.few, c.requires.1), omega arith)

pub loop-s-init : goal.loop-s-init
loop-s-init c = (c.requires.1, c.link_of-s.ensures, refl)

pub link_of-s-requires-in-loop-s : goal.link_of-s-requires-in-loop-s
link_of-s-requires-in-loop-s c = let l = c.loop-s in let f = c.requires.0.falls l.a l.invariant.0 (omega (arith, c.loop-s-test.true, l.invariant.1)) in (omega (arith, c.requires.0.room, c.requires.0.few, l.invariant.1), omega arith)

pub loop-s-smaller : goal.loop-s-smaller
loop-s-smaller c = let l = c.loop-s in let f = c.requires.0.falls l.a l.invariant.0 (omega (arith, c.loop-s-test.true, l.invariant.1)) in omega (arith, c.requires.0.few, l.invariant.1, l.invariant.0)

pub loop-s-preserved : goal.loop-s-preserved
loop-s-preserved c = let l = c.loop-s in let pos : 0 < link c.args.links.now l.a 0 = omega (arith, c.loop-s-test.true, l.invariant.1) in let f = c.requires.0.falls l.a l.invariant.0 pos in let e = leaf-more c.args.links.now c.args.n c.requires.0 l.a l.invariant.0 pos in (omega (arith, l.invariant.1), c.link_of-s-in-loop-s.ensures, ap (λ (z : ℕ). leaf c.args.links.now z) l.invariant.1 ∙ sym e ∙ l.invariant.2)

pub returns : goal.returns
returns c = let l = c.loop-s in let z : link c.args.links.now l.a 0 ≡ 0 = omega (arith, c.loop-s-test.false, l.invariant.1) in sym (down-stop c.args.links.now (256 - l.a) l.a z) ∙ l.invariant.2
