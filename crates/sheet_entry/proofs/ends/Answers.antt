use Rattle.sheet_entry.proofs.Laws.Lent.{ends-lent}
use Rattle.sheet_entry.proofs.ends.Goals as goal

pub returns : goal.returns
returns c = ends-lent _ _ c.columns_of-t.ensures _ _ _ c.ends.ensures
