use Rattle.std.proofs.Common.{ap, ◌∙◌}
use Rattle.answers.specs.Answers.{report_answer}
use Rattle.capi.proofs.kuzpalen_pool.Goals as goal

pub returns : goal.returns
returns c = c.into.ensures ∙ ap report_answer c.pool.ensures
