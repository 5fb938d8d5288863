use Rattle.finishing_step.proofs.Laws.Stepping.{concluded_yes, concluded_no}
use Rattle.finishing_step.proofs.conclude.Goals as goal

pub returns-then-last : goal.returns-then-last
returns-then-last c = concluded_yes c.if-last.true c.draw.ensures.scratch c.draw.ensures.positions

pub returns-else-last : goal.returns-else-last
returns-else-last c = concluded_no c.if-last.false
