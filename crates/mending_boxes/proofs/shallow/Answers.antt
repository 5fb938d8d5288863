use mathlib.Core.Path.{refl}
use Rattle.mending_boxes.specs.Boxes.{shallow}
use Rattle.mending_boxes.proofs.shallow.Goals as goal

pub returns : goal.returns
unfolding shallow
returns c = rw c.mendable.ensures refl
