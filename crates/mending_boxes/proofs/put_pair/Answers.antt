use mathlib.Core.Path.{refl}
use Rattle.planfile_spec.specs.Fields.{set_pair}
use Rattle.mending_boxes.proofs.put_pair.Goals as goal

pub returns : goal.returns
unfolding set_pair
returns c = refl
