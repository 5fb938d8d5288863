use mathlib.Core.Path.{◌∙◌}
use Rattle.compose_fields.proofs.Laws.Parts.{rest_is, starts-begins}
use Rattle.compose_fields.proofs.begins.Goals as goal

pub returns : goal.returns
returns c = rw (← rest_is c.args.line.now c.args.at) (c.starts_with.ensures.value ∙ starts-begins c.args.word.now _)
