use Rattle.compose.specs.Steps.{note, record_from}
use mathlib.Core.Path.{refl}
use Rattle.compose.proofs.noted.Goals as goal

pub returns : goal.returns
unfolding note record_from
returns c = refl
