use mathlib.Core.Path.{refl}
use Rattle.mending_boxes.specs.Boxes.{cramped}
use Rattle.mending_boxes.proofs.cramped.Goals as goal

pub returns : goal.returns
unfolding cramped
returns c = rw (c.mendable.ensures, c.least_width.ensures) refl
