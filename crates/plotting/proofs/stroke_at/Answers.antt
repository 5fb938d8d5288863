use Rattle.plotting.proofs.Laws.Lent.{stroke-lent}
use Rattle.plotting.proofs.stroke_at.Goals as goal

pub returns : goal.returns
returns c = stroke-lent _ _ c.columns_of.ensures _ _ _ _ c.stroke_at.ensures
