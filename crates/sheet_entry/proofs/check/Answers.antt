use Rattle.sheet_entry.proofs.Laws.Lent.{check-lent}
use Rattle.sheet_entry.proofs.check.Goals as goal

pub returns : goal.returns
returns c = check-lent _ _ c.columns_of-t.ensures _ _ _ c.check.ensures
