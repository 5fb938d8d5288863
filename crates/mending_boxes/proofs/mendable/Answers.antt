use mathlib.Core.Path.{refl}
use Rattle.mending_boxes.specs.Boxes.{mendable}
use Rattle.mending_boxes.proofs.mendable.Goals as goal

pub returns : goal.returns
unfolding mendable
returns c = rw c.known.ensures refl
