use Rattle.mark_entry.proofs.Laws.Lent.{mark-lent}
use Rattle.mark_entry.proofs.mark.Goals as goal

pub returns : goal.returns
returns c = mark-lent _ _ _ _ _ _ _ c.columns_of-t.ensures c.mark.ensures
