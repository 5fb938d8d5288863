use Rattle.join_entry.proofs.Laws.Join.{join-lent}
use Rattle.join_entry.proofs.join.Goals as goal

pub returns : goal.returns
returns c = join-lent _ _ _ _ c.lettered_of-a.ensures c.lettered_of-b.ensures _ _ _ _ c.hang.ensures
