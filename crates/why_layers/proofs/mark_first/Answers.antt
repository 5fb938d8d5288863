use Rattle.why_layers.proofs.Seeking.{first_yes, first_no}
use Rattle.why_layers.proofs.mark_first.Goals as goal

pub returns-then-v-low : goal.returns-then-v-low
returns-then-v-low c = first_yes _ _ _ _ c.see-v.ensures c.if-v-low.true

pub returns : goal.returns
returns c = first_no _ _ _ _ c.see-v.ensures c.if-v-low.false
