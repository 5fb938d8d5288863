use mathlib.Core.Path.{refl}
use Rattle.planfile_spec.proofs.Laws.Format.{read_trailer}
use Rattle.planfile_cursor.proofs.trailer.Goals as goal

pub returns : goal.returns
returns c = read_trailer _ _ _ _ _ _ _ _ _ refl c.pair-begin.ensures.0 c.pair-begin.ensures.1 c.pair-count.ensures.0 c.pair-count.ensures.1 c.pair-allowance.ensures.0 c.pair-allowance.ensures.1 c.pair-mark.ensures.0
