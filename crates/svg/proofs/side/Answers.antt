use mathlib.Core.Path.{refl}
use Rattle.svg.specs.Drawing.{side}
use Rattle.svg.proofs.side.Goals as goal

pub returns : goal.returns
unfolding side
returns c = refl
