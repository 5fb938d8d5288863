use Rattle.std.proofs.Common.{ap, ◌∙◌, length}
use Rattle.plan.specs.declared.Lettered.{Lettered}
use Rattle.records.specs.Apart.{clipped}
use Rattle.records.proofs.Laws.Apart.{lettering-columns}
use Rattle.records.proofs.columns_of.Goals as goal

pub returns : goal.returns
returns c = ap (λ (t : Lettered). t.columns) c.lettered_of-t.ensures ∙ lettering-columns c.args.table.now (length c.args.table.now) (clipped (length c.args.table.now))
