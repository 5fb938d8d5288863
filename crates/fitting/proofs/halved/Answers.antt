use native.Mathlib.Omega.{arith}
use Rattle.plan.specs.Columns.{table_of}
use Rattle.fitting.proofs.Laws.Fitted.{again, halving_start, halving_room, halving_turn, halving_less, halving_done}
use Rattle.fitting.proofs.halved.Goals as goal

pub loop-size-init : goal.loop-size-init
loop-size-init c =
    (c.requires.placeable, halving_start (table_of c.args.t) c.args.squares c.requires.placeable.fit c.requires.t)

pub half_from-low-requires : goal.half_from-low-requires
half_from-low-requires c =
    let a = c.args in
    let l = c.loop-size in
    let r = halving_room (table_of a.t) a.squares l.low l.size l.invariant.1 c.loop-size-test.true in
    (l.invariant.0, r.0, r.1)

pub loop-size-smaller : goal.loop-size-smaller
loop-size-smaller c =
    let a = c.args in
    let l = c.loop-size in
    halving_less (table_of a.t) a.squares l.low l.size l.invariant.1 c.loop-size-test.true

pub loop-size-preserved : goal.loop-size-preserved
loop-size-preserved c =
    let a = c.args in
    let l = c.loop-size in
    let e = c.half_from-low.ensures in
    (again a.t a.tops.now _ _ l.invariant.0 e.1, halving_turn (table_of a.t) a.squares l.low l.size l.invariant.1 c.loop-size-test.true _ e.0)

pub returns : goal.returns
returns c =
    let a = c.args in
    let l = c.loop-size in
    (halving_done (table_of a.t) a.squares l.low l.size l.invariant.1 (omega arith), l.invariant.0.scratch)
