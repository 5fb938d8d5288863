use Rattle.making.proofs.Laws.Lent.{start-lent}
use Rattle.making.proofs.start.Goals as goal

pub returns : goal.returns
returns c = start-lent _ _ c.columns_of-t.ensures _ _ _ _ _ _ c.start.ensures
