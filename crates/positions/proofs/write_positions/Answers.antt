use mir.Syntax.{w32}
use mir.ValLaws.{to_z-of_z}
use Rattle.plan.specs.Limits.{farthest}
use Rattle.positions.proofs.Laws.Written.{written_none, written-put, lowered}
use mathlib.Core.Path.{◌≡◌, refl, ◌∙◌, ap}
use lib.ListN.{length, length-set}
use native.Mathlib.Omega.{arith}
use Rattle.positions.proofs.write_positions.Goals as goal

pub loop-c-init : goal.loop-c-init
loop-c-init c = (refl, λ p r s. written_none p c.args.positions.now)

pub x_of-requires : goal.x_of-requires
x_of-requires c =
    (omega (arith, c.requires.0.few), c.requires.0.high c.loop-c.c c.loop-c-test.true)

pub returns : goal.returns
returns c =
    let l = c.loop-c in
    let e : l.c ≡ c.args.n = omega arith in
    rw e at l.invariant.1

pub loop-c-preserved : goal.loop-c-preserved
loop-c-preserved c =
    let a = c.args in
    let e = c.put_corner.ensures in (
      ap length e ∙ simp length-set c.loop-c.invariant.0,
      λ p r s.
          let x = c.x_of in
          let y = c.y_of in
          let h = c.loop-c-test.true in
          e ∙ written-put p a.positions.now c.loop-c.positions c.loop-c.c _ _ (c.loop-c.invariant.1 p r s)
          (to_z-of_z w32 x.result (record { sfits = x.type_inv }) ∙ x.ensures ∙ lowered _ farthest _ (r.each c.loop-c.c h))
          (to_z-of_z w32 y.result (record { sfits = y.type_inv }) ∙ y.ensures ∙ s.each c.loop-c.c h) (omega arith),
    )
