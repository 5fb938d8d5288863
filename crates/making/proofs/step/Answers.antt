use Rattle.making.proofs.Laws.Lent.{step-lent}
use Rattle.making.proofs.step.Goals as goal

pub returns : goal.returns
returns c = step-lent _ _ c.columns_of-t.ensures _ _ _ _ _ _ _ _ c.step.ensures
