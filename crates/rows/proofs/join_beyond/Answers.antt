use native.Mathlib.Omega.{arith}
use Prim.Native.Nat.{◌≤◌, ◌+◌, ◌*◌}
use mathlib.Core.Path.{◌≡◌, refl}
use lib.ListN.{length}
use Rattle.rows.specs.Rows.{put_to}
use Rattle.rows.proofs.Laws.Rows.{unread, beyond-more}
use Rattle.rows.proofs.join_beyond.Goals as goal

pub loop-j-init : goal.loop-j-init
unfolding put_to
loop-j-init c = refl

pub returns : goal.returns
returns c =
    let e : c.loop-j.j ≡ c.args.n = omega arith in
    cc

pub overflow_add-r : goal.overflow_add-r
overflow_add-r c =
    let a = c.args in
    let same = unread a.rows.now c.loop-j.rows a.at _ _ c.loop-j.j c.loop-j.invariant (omega arith) (omega arith) (a.at + 3) (omega arith) in
    omega (arith, c.extent_at.ensures, same, c.requires.2 (64 * c.loop-j.j + (a.at + 3)), c.requires.3)

pub loop-j-preserved : goal.loop-j-preserved
loop-j-preserved c =
    let a = c.args in
    let f : 64 * c.loop-j.j ≤ length a.rows.now = omega arith in
    beyond-more a.rows.now c.loop-j.rows a.at a.x c.loop-j.j c.loop-j.invariant (omega arith) f c.extent_at-l.ensures c.extent_at.ensures refl c.put_row.ensures
