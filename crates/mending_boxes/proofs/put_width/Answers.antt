use mathlib.Core.Path.{refl}
use native.Mathlib.Omega.{arith}
use Rattle.planfile_spec.specs.Fields.{set_number, width_place}
use Rattle.mending_boxes.proofs.Laws.Code.{old_room, wide_room}
use Rattle.mending_boxes.proofs.put_width.Goals as goal

pub bounds-out-at : goal.bounds-out-at
bounds-out-at c = let h = old_room _ c.in-Old.is c.requires.1 in omega (arith, h)

pub put_pair-requires : goal.put_pair-requires
put_pair-requires c = let h = wide_room _ c.in-Wide.is c.requires.1 in omega (arith, h)

pub returns-in-Old : goal.returns-in-Old
unfolding set_number width_place
returns-in-Old c = rw c.in-Old.is refl

pub returns-in-Wide : goal.returns-in-Wide
unfolding set_number width_place
returns-in-Wide c = rw c.in-Wide.is c.put_pair.ensures
