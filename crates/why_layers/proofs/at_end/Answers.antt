use Rattle.why_layers.proofs.Seeking.{end-no, end_yes}
use Rattle.why_layers.proofs.at_end.Goals as goal

pub returns-then-marks-e : goal.returns-then-marks-e
returns-then-marks-e c = end-no _ _ _ _ _ c.if-marks-e.true

pub returns : goal.returns
returns c = end_yes _ _ _ _ _ _ c.if-marks-e.false c.see-v.ensures
