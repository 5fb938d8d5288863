use Rattle.plan.specs.Questions.{lower}
use Rattle.plan.proofs.Laws.Questions.{lower_suc}
use Rattle.asking.proofs.lower.Goals as goal

pub returns-then-cell-eq0 : goal.returns-then-cell-eq0
unfolding lower
returns-then-cell-eq0 c = rw c.if-cell-eq0.true

pub returns : goal.returns
returns c = lower_suc _ _ c.if-cell-eq0.false
