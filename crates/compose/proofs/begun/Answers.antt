use Rattle.compose.specs.State.{start_at}
use mathlib.Core.Path.{refl}
use Rattle.compose.proofs.begun.Goals as goal

pub returns : goal.returns
unfolding start_at
returns c = refl
