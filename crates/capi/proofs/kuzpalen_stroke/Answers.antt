use Rattle.std.proofs.Common.{ap, ◌∙◌}
use Rattle.answers.specs.Answers.{stroke_answer}
use Rattle.capi.proofs.kuzpalen_stroke.Goals as goal

pub returns : goal.returns
returns c = c.into.ensures ∙ ap stroke_answer c.stroke_at.ensures
