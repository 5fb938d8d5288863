use Rattle.drill_entry.proofs.Laws.Lent.{drill-lent}
use Rattle.drill_entry.proofs.drill.Goals as goal

pub returns : goal.returns
returns c = drill-lent _ _ c.columns_of-t.ensures _ _ _ _ c.drill.ensures
