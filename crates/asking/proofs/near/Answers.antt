use mathlib.Core.Path.{ap, ◌∙◌}
use mir.Syntax.{w32}
use mir.ValLaws.{to_z-of_z}
use Rattle.whole.specs.Range.{in_range}
use Rattle.plan.specs.Limits.{farthest}
use Rattle.plan.specs.Questions.{near}
use Rattle.asking.proofs.near.Goals as goal

pub returns : goal.returns
unfolding near
returns c = c.within.ensures ∙ ap (in_range farthest) (to_z-of_z w32 _ (record { sfits = c.within-arg-1.given }))
