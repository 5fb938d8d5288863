use Rattle.finishing_order.specs.Order.{after, nth, met}
use Rattle.finishing_order.proofs.Laws.Order.{nth-more, met-more}
use lib.Dec.{eqb}
use mathlib.Core.Bool.{◌||◌}
use mathlib.Core.Path.{◌≡◌, refl, sym, ap, ◌∙◌}
use native.Mathlib.Omega.{arith}
use Rattle.finishing_order.proofs.seek.Goals as goal
use Rattle.finishing_order.proofs.seek.Goals.{then-met, else-met}

pub leaf-cell-requires : goal.leaf-cell-requires
leaf-cell-requires c = (c.requires.0.falls, c.requires.1)

pub loop-i-init : goal.loop-i-init
unfolding nth met
loop-i-init c = (c.leaf-cell.ensures, refl)

pub after-cell-requires : goal.after-cell-requires
after-cell-requires c = (c.requires.0, rw c.loop-i.invariant.0 (c.requires.0.inside c.loop-i._i (omega (arith, c.loop-i-test.true, c.requires.2))))

pub loop-i-preserved : goal.loop-i-preserved
loop-i-preserved c =
    let found : c.if-met.met ≡ (c.loop-i.met || eqb c.args.x c.loop-i.cell) = elim c.if-met.branch [ then-met w ↦ w.met-is ∙ rw w.if-met.true | else-met w ↦ w.met-is ∙ rw w.if-met.false ] in (
      c.after-cell.ensures ∙ ap (after c.args.links.now c.args.parents.now) c.loop-i.invariant.0 ∙ sym (nth-more c.args.links.now c.args.parents.now c.loop-i._i),
      found ∙ (λ j. (c.loop-i.invariant.1 j) || eqb c.args.x (c.loop-i.invariant.0 j)) ∙ sym (met-more c.args.links.now c.args.parents.now c.args.x c.loop-i._i),
    )

pub returns : goal.returns
returns c =
    let e : c.loop-i._i ≡ c.args.k = omega (arith, c.loop-i-test.false, c.loop-i.auto._i-end) in
    (c.loop-i.invariant.0 ∙ ap (nth c.args.links.now c.args.parents.now) e, c.loop-i.invariant.1 ∙ ap (met c.args.links.now c.args.parents.now c.args.x) e)
