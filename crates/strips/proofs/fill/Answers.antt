use Rattle.strips.proofs.Laws.Puts.{filled-starts, filled-turns, filled-ends}
use Rattle.strips.proofs.fill.Goals as goal

pub loop-k-init : goal.loop-k-init
loop-k-init c = filled-starts _ _ _

pub loop-k-preserved : goal.loop-k-preserved
loop-k-preserved c = filled-turns c.loop-k.invariant c.loop-k-test.true

pub returns : goal.returns
returns c = filled-ends c.loop-k.invariant c.min-stop.ensures c.requires c.loop-k-test.false
