use Rattle.std.proofs.Common.{ap, ◌∙◌}
use Rattle.answers.specs.Answers.{check_answer}
use Rattle.capi.proofs.kuzpalen_check.Goals as goal

pub returns : goal.returns
returns c = c.into.ensures ∙ ap check_answer c.check.ensures
