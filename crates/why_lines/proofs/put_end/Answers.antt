use Rattle.why_lines.proofs.Laws.Printed.{named}
use Rattle.why_lines.proofs.Laws.Steps.{end-named}
use Rattle.why_lines.proofs.put_end.Goals as goal

pub returns : goal.returns
returns c = (named _ c.put_last.ensures.0 (end-named _ _ _ _ _ _ c.x_of-x.ensures c.x_of-x_first.ensures), c.put_last.ensures.1)
