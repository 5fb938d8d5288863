use mathlib.Core.Path.{◌≡◌, ap}
use Prim.Native.Nat.{ℕ, ◌+◌}
use lib.ListN.{get_or}
use native.Mathlib.Omega.{arith}
use Rattle.positions.proofs.Laws.Measured.{greatest-one, greatest-more, bottom-is}
use Rattle.positions.proofs.sheet_rows.Goals as goal

pub loop-c-init : goal.loop-c-init
loop-c-init c =
    let a = c.args in
    (rw c.last_row-last.ensures.0 (greatest-one (λ x. get_or a.tops.now x 0 + get_or a.depths.now x 0)), c.last_row-last.ensures.1)

pub loop-c-preserved : goal.loop-c-preserved
loop-c-preserved c =
    let a = c.args in
    (rw (c.max-last.ensures, c.last_row.ensures.0) (greatest-more (λ x. get_or a.tops.now x 0 + get_or a.depths.now x 0) c.loop-c.c c.loop-c.last c.loop-c.invariant.0), omega arith)

pub returns : goal.returns
returns c =
    let l = c.loop-c in
    let a = c.args in
    let e : l.c ≡ a.n = omega arith in
    λ ps ks ws qs sound col. ap (λ (x : ℕ). x + 1) (bottom-is ps ks ws a.depths.now qs a.n (omega arith) sound a.tops.now col l.last (rw e at l.invariant.0))
