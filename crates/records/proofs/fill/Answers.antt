use Rattle.records.specs.Together.{as_reading}
use Rattle.records.proofs.Laws.Together.{filled_none, filled_more}
use Rattle.records.proofs.fill.Goals as goal

pub loop-c-init : goal.loop-c-init
loop-c-init c = filled_none (as_reading c.args.t.now) c.args.table.now

pub loop-c-preserved : goal.loop-c-preserved
loop-c-preserved c = rw (← c.loop-c.invariant) at (filled_more (as_reading c.args.t.now) c.args.table.now c.loop-c.c)
