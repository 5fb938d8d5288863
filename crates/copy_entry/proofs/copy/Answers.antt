use Rattle.copy_entry.proofs.Laws.Lent.{copy-lent}
use Rattle.copy_entry.proofs.copy.Goals as goal

pub returns : goal.returns
returns c = copy-lent _ _ _ _ _ _ _ c.lettered_of-t.ensures c.copy.ensures
