use native.Mathlib.Omega.{arith}
use Rattle.mending_boxes.proofs.Laws.Code.{place-room, mends_start, mends_next, mends_as_long, mends_end}
use Rattle.mending_boxes.proofs.mend_records.Goals as goal

pub loop-c-init : goal.loop-c-init
loop-c-init c = mends_start _ _ _ _

pub place-requires : goal.place-requires
place-requires c = let h = place-room c.args.form c.args.begin _ c.args.n _ c.loop-c-test.true c.requires.0 c.requires.1 in (h.0, omega (arith, h.1, c.well_formed))

pub mend_record-requires : goal.mend_record-requires
mend_record-requires c =
    let h = place-room c.args.form c.args.begin _ c.args.n _ c.loop-c-test.true c.requires.0 c.requires.1 in
    let l = mends_as_long _ _ _ _ _ c.loop-c.invariant in
    (rw c.place.ensures h.1, rw c.place.ensures (omega (arith, h.1, l, c.requires.2)))

pub loop-c-preserved : goal.loop-c-preserved
loop-c-preserved c = mends_next _ _ _ _ _ c.loop-c.invariant c.place.ensures c.mend_record.ensures

pub shape_of-out : goal.shape_of-out
shape_of-out c = mends_as_long _ _ _ _ _ c.loop-c.invariant

pub returns : goal.returns
returns c = mends_end _ _ _ _ _ _ c.loop-c.invariant c.loop-c.auto.c-end c.loop-c-test.false
