use Rattle.std.proofs.Common.{ap, ◌∙◌}
use Rattle.answers.specs.Answers.{ends_answer}
use Rattle.capi.proofs.kuzpalen_ends.Goals as goal

pub returns : goal.returns
returns c = c.into.ensures ∙ ap ends_answer c.ends.ensures
