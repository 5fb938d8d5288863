use mathlib.Core.Path.{◌∙◌}
use Rattle.why_layers.proofs.Seeking.{leads-no, leads_yes}
use Rattle.why_layers.proofs.leads_on.Goals as goal

pub returns-then-marks-a : goal.returns-then-marks-a
returns-then-marks-a c = leads-no _ _ _ _ _ _ c.if-marks-a.true

pub rule_of-requires : goal.rule_of-requires
rule_of-requires c = let h = c.requires in rw (c.see-v.ensures, c.see-w.ensures) h

pub returns : goal.returns
returns c = c.is_some.ensures ∙ leads_yes _ _ _ _ _ _ _ _ _ c.if-marks-a.false c.see-v.ensures c.see-w.ensures c.rule_of.ensures
