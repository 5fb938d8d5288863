use Rattle.making.proofs.Laws.Lent.{reach-lent}
use Rattle.making.proofs.reach.Goals as goal

pub returns : goal.returns
returns c = reach-lent _ _ c.columns_of-t.ensures _ _ _ _ _ c.reach.ensures
