use Rattle.strips.proofs.Laws.Puts.{one-put}
use Rattle.strips.proofs.put_one.Goals as goal

pub returns : goal.returns
returns c = one-put _ _ _ _ _ c.place.ensures.0 c.one_mask.ensures c.or_at.ensures
