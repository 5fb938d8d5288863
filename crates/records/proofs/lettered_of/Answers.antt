use Rattle.std.proofs.Common.{length, ◌∙◌}
use Rattle.records.proofs.Laws.Apart.{lettering-none, lettering-more}
use Rattle.records.proofs.lettered_of.Goals as goal

pub loop-c-init : goal.loop-c-init
loop-c-init c = c.empty-t.ensures ∙ lettering-none c.args.table.now (length c.args.table.now)

pub loop-c-preserved : goal.loop-c-preserved
loop-c-preserved c = rw (← c.loop-c.invariant, ← c.record_at-r.ensures) at (lettering-more c.args.table.now (length c.args.table.now) c.loop-c.c)
