use Rattle.layout_entry.proofs.Laws.Lent.{layout-lent}
use Rattle.layout_entry.proofs.layout.Goals as goal

pub returns : goal.returns
returns c = layout-lent _ _ c.columns_of-t.ensures _ _ _ _ _ _ c.layout.ensures
