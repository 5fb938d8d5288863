use mathlib.Core.Path.{◌≡◌}
use Prim.Native.Nat.{◌+◌}
use lib.ListN.{get_or}
use native.Mathlib.Omega.{arith}
use Rattle.positions.proofs.Laws.Measured.{smallest_one, greatest-one, smallest_more, greatest-more, width_is}
use Rattle.positions.proofs.sheet_width.Goals as goal

pub right_edge-most-requires : goal.right_edge-most-requires
right_edge-most-requires c = (omega arith, c.requires.0.high 0 (omega arith))

pub loop-c-init : goal.loop-c-init
loop-c-init c =
    let a = c.args in
    (smallest_one (λ x. get_or a.xs.now x 0), rw c.right_edge-most.ensures (greatest-one (λ x. get_or a.xs.now x 0 + get_or a.widths.now x 0)))

pub right_edge-requires : goal.right_edge-requires
right_edge-requires c = (omega (arith, c.requires.0.few), c.requires.0.high c.loop-c.c c.loop-c-test.true)

pub loop-c-preserved : goal.loop-c-preserved
loop-c-preserved c =
    let a = c.args in
    (rw c.min-least.ensures (smallest_more (λ x. get_or a.xs.now x 0) c.loop-c.c c.loop-c.least c.loop-c.invariant.0), rw (c.max-most.ensures, c.right_edge.ensures) (greatest-more (λ x. get_or a.xs.now x 0 + get_or a.widths.now x 0) c.loop-c.c c.loop-c.most c.loop-c.invariant.1))

pub overflow_sub-result : goal.overflow_sub-result
overflow_sub-result c =
    let i = c.loop-c.invariant in
    omega (arith, i.0.all i.1.at i.1.before, i.1.is)

pub returns : goal.returns
returns c =
    let l = c.loop-c in
    let a = c.args in
    let e : l.c ≡ a.n = omega arith in
    λ p ps ks ds qs r. width_is ps ks a.widths.now ds qs a.n (omega arith) p a.xs.now r l.least l.most (rw e at l.invariant.0) (rw e at l.invariant.1)
