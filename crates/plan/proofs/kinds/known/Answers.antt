use mathlib.Core.Path.{ap, ◌∙◌}
use Rattle.std.specs.Prelude.{is_some}
use Rattle.plan.proofs.Laws.Kinds.{known-some}
use Rattle.plan.proofs.kinds.known.Goals as goal

pub returns : goal.returns
returns c = c.is_some.ensures ∙ ap is_some c.about.ensures ∙ known-some _
