use Rattle.why_layers.proofs.Seeking.{next_old, next_new, next-none}
use Rattle.why_layers.proofs.mark_next.Goals as goal

pub returns-then-old-ne0 : goal.returns-then-old-ne0
returns-then-old-ne0 c = next_old _ _ _ _ _ _ c.if-old-ne0.true

pub returns-in-Some : goal.returns-in-Some
returns-in-Some c = next_new _ _ _ _ _ _ _ c.if-old-ne0.false c.in-Some.ensures

pub returns-in-None : goal.returns-in-None
returns-in-None c = next-none _ _ _ _ _ _ c.if-old-ne0.false c.in-None.ensures
