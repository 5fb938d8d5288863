use mathlib.Core.Path.{◌≡◌}
use Prim.Native.Nat.{◌+◌, ◌-◌}
use native.Mathlib.Omega.{arith}
use Rattle.following_cell.proofs.Laws.Siblings.{row_room, row-later, hops-more, hops-none}
use Rattle.following_cell.proofs.sibling.Goals as goal

pub loop-i-init : goal.loop-i-init
loop-i-init c = let e : c.args.a - 0 ≡ c.args.a = omega arith in (c.requires, rw e)

pub later-s-requires : goal.later-s-requires
later-s-requires c = row_room c.loop-i.invariant.0

pub loop-i-preserved : goal.loop-i-preserved
loop-i-preserved c =
    let l = c.loop-i in
    let e : c.args.a - (l._i + 1) ≡ c.args.a - l._i - 1 = omega arith in
    (row-later l.invariant.0 c.later-s.ensures, rw e (hops-more _ _ _ (c.args.a - l._i) _ c.later-s.ensures (omega (arith, c.loop-i-test.true)) l.invariant.1))

pub returns : goal.returns
returns c = hops-none _ _ (c.args.a - c.loop-i._i) _ (omega (arith, c.loop-i-test.false)) c.loop-i.invariant.1
