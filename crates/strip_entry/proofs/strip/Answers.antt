use Rattle.strip_entry.proofs.Laws.Lent.{strip-lent}
use Rattle.strip_entry.proofs.strip.Goals as goal

pub returns : goal.returns
returns c = strip-lent _ _ c.columns_of.ensures _ _ _ _ _ _ c.strip.ensures
