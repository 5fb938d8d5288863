use native.Mathlib.Omega.{arith}
use Rattle.grafting.proofs.Laws.Grafted.{values-none, values-more, values-all}
use Rattle.grafting.proofs.join_values.Goals as goal

pub loop-i-init : goal.loop-i-init
loop-i-init g c = values-none _ _

pub loop-i-preserved : goal.loop-i-preserved
loop-i-preserved g c = values-more _ _ _ _ _ c.loop-i.invariant (c.pick.ensures c.args.zero)

pub returns : goal.returns
returns g c = values-all _ _ _ _ _ c.loop-i.invariant (omega arith)
