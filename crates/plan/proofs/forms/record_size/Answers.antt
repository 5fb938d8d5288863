use Rattle.plan.specs.Forms.{record_size}
use borrow.Author.Rules.{rules}
use Rattle.plan.proofs.forms.record_size.Goals as goal

pub returns-in-Old : goal.returns-in-Old
unfolding record_size
returns-in-Old c = search rules

pub returns-in-Wide : goal.returns-in-Wide
unfolding record_size
returns-in-Wide c = search rules
