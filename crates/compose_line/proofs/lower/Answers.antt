use Rattle.plan.proofs.Laws.Questions.{lower_suc}
use Rattle.compose_line.proofs.Laws.Cells.{lower-first}
use Rattle.compose_line.proofs.lower.Goals as goal

pub returns-then-c-eq0 : goal.returns-then-c-eq0
returns-then-c-eq0 c = lower-first _ _ c.if-c-eq0.true

pub returns : goal.returns
returns c = lower_suc _ _ c.if-c-eq0.false
