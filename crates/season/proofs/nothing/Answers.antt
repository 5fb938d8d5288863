use mathlib.Core.Path.{refl}
use Rattle.season.specs.Report.{nothing}
use Rattle.season.proofs.nothing.Goals as goal

pub returns : goal.returns
unfolding nothing
returns c = refl
