use Rattle.why_lines.proofs.Laws.Printed.{named}
use Rattle.why_lines.proofs.Laws.Steps.{step-named}
use Rattle.why_lines.proofs.put_step.Goals as goal

pub returns : goal.returns
returns c = (named _ c.put_link.ensures.0 (step-named _ _ _ _ _ _ _ _ c.from-rule.ensures c.x_of-x_first.ensures c.x_of-x_from.ensures c.x_of-x_to.ensures), c.put_link.ensures.1)
