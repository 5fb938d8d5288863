use Rattle.looking_columns.proofs.Making.{made-next, made_all}
use Rattle.looking_sights.specs.declared.View.{View}
use mathlib.Core.Path.{ap}
use Prim.Native.Nat.{◌-◌}
use native.Mathlib.Omega.{arith}
use Rattle.sweeping.specs.Swept.{top}
use Rattle.sweeping.proofs.sides_of.Goals as goal

pub loop-c-preserved : goal.loop-c-preserved
loop-c-preserved c = record {
  highs = made-next _ c.loop-c.invariant.highs (omega (arith, c.requires.few, c.loop-c-test.true)) (ap (λ (v : View). v.right) c.see-w.ensures);
  lows = made-next _ c.loop-c.invariant.lows (omega (arith, c.requires.few, c.loop-c-test.true)) (ap (λ (v : View). top - v.x) c.see-w.ensures);
}

pub returns : goal.returns
returns c = (made_all _ c.loop-c.invariant.highs (omega arith) c.loop-c-test.false, made_all _ c.loop-c.invariant.lows (omega arith) c.loop-c-test.false)
