use Rattle.strips.proofs.Laws.Puts.{and_of}
use Rattle.strips.proofs.part_mask.Goals as goal

pub returns : goal.returns
returns c = and_of _ _ _ _ c.tail_mask.ensures c.head_mask.ensures
