use Rattle.plan.specs.Forms.{widest}
use borrow.Author.Rules.{rules}
use Rattle.plan.proofs.forms.widest.Goals as goal

pub returns-in-Old : goal.returns-in-Old
unfolding widest
returns-in-Old c = search rules

pub returns-in-Wide : goal.returns-in-Wide
unfolding widest
returns-in-Wide c = search rules
