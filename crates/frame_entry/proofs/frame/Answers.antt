use Rattle.frame_entry.proofs.Laws.Lent.{frame-lent}
use Rattle.frame_entry.proofs.frame.Goals as goal

pub returns : goal.returns
returns c = frame-lent _ _ c.columns_of-t.ensures _ _ _ _ c.frame.ensures
