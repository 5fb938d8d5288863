use Rattle.strip.proofs.Laws.Sizes.{laid_narrow}
use Rattle.strip.proofs.draw.Goals as goal

pub returns : goal.returns
returns c = laid_narrow _ _ _ _ _ _ _ c.in_ok-measures.ensures
