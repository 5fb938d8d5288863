use mathlib.Core.Path.{refl}
use native.Mathlib.Omega.{arith}
use Rattle.copying_records.proofs.Laws.Put.{rowed_start, rowed_room, rowed_more, rowed_all}
use Rattle.copying_records.proofs.put_records.Goals as goal

pub loop-c-init : goal.loop-c-init
loop-c-init c = rowed_start _ _ _ _ _ _ _ _ _

pub overflow_cast-r : goal.overflow_cast-r
overflow_cast-r c = record { fits = (rowed_room _ _ _ _ _ _ _ _ _ _ _ _ _ _ c.requires.0 c.loop-c-test.true c.loop-c.invariant c.requires.1).1 }

pub put_record-at-requires : goal.put_record-at-requires
put_record-at-requires c =
    let h = rowed_room _ _ _ _ _ _ _ _ _ _ _ _ _ _ c.requires.0 c.loop-c-test.true c.loop-c.invariant c.requires.1 in
    (h.0, h.2)

pub loop-c-preserved : goal.loop-c-preserved
loop-c-preserved c = rowed_more _ _ _ _ _ _ _ _ _ _ _ _ _ _ c.requires.0 c.loop-c-test.true c.loop-c.invariant _ _ _ c.put_record-at.ensures (rw c.from-start.ensures refl)

pub returns : goal.returns
returns c = rowed_all _ _ _ _ _ _ _ _ _ _ _ _ _ _ c.loop-c.invariant (omega arith)
