use mathlib.Core.Path.{◌∙◌, ap}
use Rattle.std.specs.Prelude.{Ok}
use Prim.Native.Nat.{◌<◌}
use native.Mathlib.Omega.{arith}
use Rattle.ends.specs.Ended.{ended_of}
use Rattle.ends.proofs.Joining.{endable, width_low, depth_low, moved_back, joined_is}
use Rattle.plan.proofs.Laws.Answered.{answers_err, answers_ok}
use Rattle.ends.proofs.ends.Goals as goal

pub returns-in_err-refuse : goal.returns-in_err-refuse
unfolding ended_of
returns-in_err-refuse c = answers_err _ _ _ _ c.in_err-refuse.ensures c.from_residual.ensures.1

pub parent_of-p-requires : goal.parent_of-p-requires
parent_of-p-requires c =
    let ok = endable _ _ _ _ c.in_ok-refuse.ensures in
    (omega (arith, ok.is, ok.few), ok.lower)

pub overflow_mul-p : goal.overflow_mul-p
overflow_mul-p c =
    let ok = endable _ _ _ _ c.in_ok-refuse.ensures in
    omega (arith, ok.few, ok.is, ok.room, c.parent_of-p.ensures.1)

pub offset_bounds-t-p : goal.offset_bounds-t-p
offset_bounds-t-p c =
    let ok = endable _ _ _ _ c.in_ok-refuse.ensures in
    omega (arith, ok.few, ok.is, ok.room, c.parent_of-p.ensures.1)

pub bounds-t-p : goal.bounds-t-p
bounds-t-p c =
    let ok = endable _ _ _ _ c.in_ok-refuse.ensures in
    omega (arith, ok.few, ok.is, ok.room, c.parent_of-p.ensures.1)

pub moved-requires : goal.moved-requires
moved-requires c =
    let ok = endable _ _ _ _ c.in_ok-refuse.ensures in
    let lf : c.parent_of-p.result < c.args.t.count = omega (arith, ok.is, c.parent_of-p.ensures.1) in
    (omega (arith, ok.is, ok.room, c.parent_of-p.ensures.1), ok.near.x _ lf, omega (arith, c.half.ensures, width_low _ ok.fit _ lf))

pub overflow_mul-p-2 : goal.overflow_mul-p-2
overflow_mul-p-2 c =
    let ok = endable _ _ _ _ c.in_ok-refuse.ensures in
    omega (arith, ok.few, ok.is, ok.room, c.parent_of-p.ensures.1)

pub overflow_add-p : goal.overflow_add-p
overflow_add-p c =
    let ok = endable _ _ _ _ c.in_ok-refuse.ensures in
    omega (arith, ok.few, ok.is, ok.room, c.parent_of-p.ensures.1)

pub bounds-t-p-2 : goal.bounds-t-p-2
bounds-t-p-2 c =
    let ok = endable _ _ _ _ c.in_ok-refuse.ensures in
    omega (arith, ok.few, ok.is, ok.room, c.parent_of-p.ensures.1)

pub moved-requires-2 : goal.moved-requires-2
moved-requires-2 c =
    let ok = endable _ _ _ _ c.in_ok-refuse.ensures in
    let lf : c.parent_of-p.result < c.args.t.count = omega (arith, ok.is, c.parent_of-p.ensures.1) in
    (omega (arith, ok.is, ok.room, c.parent_of-p.ensures.1), ok.near.y _ lf, omega (arith, c.from.ensures, depth_low _ ok.fit _ lf))

pub overflow_mul-cell : goal.overflow_mul-cell
overflow_mul-cell c =
    let ok = endable _ _ _ _ c.in_ok-refuse.ensures in
    omega (arith, ok.few, ok.is, ok.room, c.parent_of-p.ensures.1)

pub offset_bounds-t-cell : goal.offset_bounds-t-cell
offset_bounds-t-cell c =
    let ok = endable _ _ _ _ c.in_ok-refuse.ensures in
    omega (arith, ok.few, ok.is, ok.room, c.parent_of-p.ensures.1)

pub bounds-t-cell : goal.bounds-t-cell
bounds-t-cell c =
    let ok = endable _ _ _ _ c.in_ok-refuse.ensures in
    omega (arith, ok.few, ok.is, ok.room, c.parent_of-p.ensures.1)

pub moved-requires-3 : goal.moved-requires-3
moved-requires-3 c =
    let ok = endable _ _ _ _ c.in_ok-refuse.ensures in
    (omega (arith, ok.is, ok.room, c.parent_of-p.ensures.1), ok.near.x _ ok.is, omega (arith, c.half-2.ensures, width_low _ ok.fit _ ok.is))

pub overflow_mul-cell-2 : goal.overflow_mul-cell-2
overflow_mul-cell-2 c =
    let ok = endable _ _ _ _ c.in_ok-refuse.ensures in
    omega (arith, ok.few, ok.is, ok.room, c.parent_of-p.ensures.1)

pub overflow_add-cell : goal.overflow_add-cell
overflow_add-cell c =
    let ok = endable _ _ _ _ c.in_ok-refuse.ensures in
    omega (arith, ok.few, ok.is, ok.room, c.parent_of-p.ensures.1)

pub moved-requires-4 : goal.moved-requires-4
moved-requires-4 c =
    let ok = endable _ _ _ _ c.in_ok-refuse.ensures in
    (omega (arith, ok.is, ok.room, c.parent_of-p.ensures.1), ok.near.y _ ok.is, omega arith)

pub returns : goal.returns
unfolding ended_of
returns c =
    let ok = endable _ _ _ _ c.in_ok-refuse.ensures in
    let lf : c.parent_of-p.result < c.args.t.count = omega (arith, ok.is, c.parent_of-p.ensures.1) in
    let hw = width_low _ ok.fit in
    ap Ok (joined_is _ ok.fit _ _ _ _ _ _ ok.is lf c.parent_of-p.ensures.0 c.half.ensures c.from.ensures c.half-2.ensures
    (moved_back _ (ok.near.x _ lf) _ _ (omega (arith, c.half.ensures, hw _ lf)) c.moved.ensures)
    (moved_back _ (ok.near.y _ lf) _ _ (omega (arith, c.from.ensures, depth_low _ ok.fit _ lf)) c.moved-2.ensures)
    (moved_back _ (ok.near.x _ ok.is) _ _ (omega (arith, c.half-2.ensures, hw _ ok.is)) c.moved-3.ensures)
    (moved_back _ (ok.near.y _ ok.is) _ _ (omega arith) c.moved-4.ensures))
    ∙ answers_ok _ _ c.in_ok-refuse.ensures _
