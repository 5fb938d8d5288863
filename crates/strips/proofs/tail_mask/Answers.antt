use Rattle.strips.proofs.Laws.Bits.{tail_mask}
use Rattle.strips.proofs.tail_mask.Goals as goal

pub returns : goal.returns
returns c = tail_mask _ c.requires
