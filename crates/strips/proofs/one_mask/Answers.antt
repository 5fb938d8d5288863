use Rattle.strips.proofs.Laws.Bits.{one_mask}
use Rattle.strips.proofs.one_mask.Goals as goal

pub returns : goal.returns
returns c = one_mask _ c.requires
