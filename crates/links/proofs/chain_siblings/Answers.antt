use native.Mathlib.Omega.{arith}
use Prim.Native.Nat.{◌-◌}
use mathlib.Core.Path.{◌≡◌, refl}
use lib.ListN.{length-set}
use Rattle.links.specs.Build.{chained}
use Rattle.links.proofs.Laws.Build.{chain_more, slot_inside}
use Rattle.links.proofs.Laws.Built.{seeking}
use Rattle.links.proofs.chain_siblings.Goals as goal

pub loop-c-init : goal.loop-c-init
unfolding chained
loop-c-init c =
    let t = c.args.t.now in
    let e : t.count - t.count ≡ 0 = omega arith in
    (c.requires.some, rw e)

pub slot-at-requires : goal.slot-at-requires
slot-at-requires c =
    let t = c.args.t.now in
    let l = c.loop-c in
    seeking t.parent t.rank t.count c.args.links.now c.requires l.c c.loop-c-test.true (omega arith) l.invariant.1 c.from-first.ensures

pub offset_bounds-links-at : goal.offset_bounds-links-at
offset_bounds-links-at c =
    let t = c.args.t.now in
    let l = c.loop-c in
    let i = slot_inside t.rank l.links _ _ (seeking t.parent t.rank t.count c.args.links.now c.requires l.c c.loop-c-test.true (omega arith) l.invariant.1 c.from-first.ensures) c.slot-at.ensures in
    omega (arith, l.auto.links)

pub offset_bounds-links-at-in-loop-c : goal.offset_bounds-links-at-in-loop-c
offset_bounds-links-at-in-loop-c c =
    let t = c.args.t.now in
    let l = c.loop-c in
    let i = slot_inside t.rank l.links _ _ (seeking t.parent t.rank t.count c.args.links.now c.requires l.c c.loop-c-test.true (omega arith) l.invariant.1 c.from-first.ensures) c.slot-at.ensures in
    omega (arith, l.auto.links)

pub bounds-links-at : goal.bounds-links-at
bounds-links-at c =
    let t = c.args.t.now in
    let l = c.loop-c in
    slot_inside t.rank l.links _ _ (seeking t.parent t.rank t.count c.args.links.now c.requires l.c c.loop-c-test.true (omega arith) l.invariant.1 c.from-first.ensures) c.slot-at.ensures

pub bounds-links-at-in-loop-c : goal.bounds-links-at-in-loop-c
bounds-links-at-in-loop-c c =
    let t = c.args.t.now in
    let l = c.loop-c in
    simp length-set (slot_inside t.rank l.links _ _ (seeking t.parent t.rank t.count c.args.links.now c.requires l.c c.loop-c-test.true (omega arith) l.invariant.1 c.from-first.ensures) c.slot-at.ensures)

pub loop-c-preserved : goal.loop-c-preserved
loop-c-preserved c =
    let t = c.args.t.now in
    let l = c.loop-c in
    (omega arith, chain_more t.parent t.rank c.args.links.now t.count l.c c.loop-c-test.true (omega arith) l.invariant.1 c.from-first.ensures refl c.slot-at.ensures)

pub returns : goal.returns
returns c =
    let l = c.loop-c in
    let e : l.c ≡ 1 = omega arith in
    rw e at l.invariant.1
