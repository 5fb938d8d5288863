use Rattle.strips.proofs.Laws.Puts.{one_comes, one_not}
use Rattle.strips.proofs.one_from.Goals as goal

pub returns-then-first-a : goal.returns-then-first-a
returns-then-first-a c = one_comes _ _ c.if-first-a.true c.put_one.ensures

pub returns-else-first-a : goal.returns-else-first-a
returns-else-first-a c = one_not _ _ _ c.if-first-a.false
