use Rattle.strips.proofs.Laws.Bits.{head_mask}
use Rattle.strips.proofs.head_mask.Goals as goal

pub returns : goal.returns
returns c = head_mask _ c.requires
