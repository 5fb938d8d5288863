use mathlib.Core.Path.{refl}
use Rattle.walk.specs.Turns.{stack_of}
use Rattle.walk.proofs.Laws.Visits.{visiting_start}
use Rattle.walk.proofs.begin.Goals as goal

pub returns : goal.returns
returns c = record { count_value = (unfold stack_of in refl, c.link_of.ensures); begins = λ b xs ms e. visiting_start b _ _ _ xs ms (unfold stack_of in refl) (rw e c.link_of.ensures) }
