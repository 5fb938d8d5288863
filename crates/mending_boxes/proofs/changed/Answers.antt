use mathlib.Core.Path.{refl}
use Rattle.mending_boxes.specs.Boxes.{changed}
use Rattle.mending_boxes.proofs.changed.Goals as goal

pub returns : goal.returns
unfolding changed
returns c = rw (c.cramped.ensures, c.shallow.ensures) refl
