use borrow.Author.Rules.{rules}
use native.Mathlib.Omega.{arith}
use Prim.Native.Nat.{◌≤◌, ◌*◌}
use mathlib.Core.Path.{◌≡◌, refl, ◌∙◌, ap}
use lib.ListN.{length}
use Rattle.rows.specs.Rows.{extent, put_to}
use Rattle.rows.proofs.Laws.Rows.{put_to-above, upto-more}
use Rattle.rows.proofs.join_upto.Goals as goal

pub loop-j-init : goal.loop-j-init
unfolding put_to
loop-j-init c = refl

pub returns : goal.returns
returns c =
    let e : c.loop-j.j ≡ c.args.n = omega arith in
    cc

pub shifted-l-requires : goal.shifted-l-requires
shifted-l-requires c =
    let a = c.args in
    let le : a.at ≤ 60 = omega arith in
    let same : extent c.loop-j.rows c.loop-j.j a.at ≡ extent a.rows.now c.loop-j.j a.at = ap (λ xs. extent xs c.loop-j.j a.at) c.loop-j.invariant ∙ put_to-above a.rows.now a.at _ _ c.loop-j.j le (omega arith) c.loop-j.j a.at (omega arith) (omega arith) in
    (rw (c.extent_at-old.ensures, same) (c.requires.2 _), search rules)

pub loop-j-preserved : goal.loop-j-preserved
loop-j-preserved c =
    let a = c.args in
    let f : 64 * c.loop-j.j ≤ length a.rows.now = omega arith in
    upto-more a.rows.now c.loop-j.rows a.at a.h a.g c.loop-j.j c.loop-j.invariant (omega arith) f c.extent_at-old.ensures c.extent_at.ensures c.shifted-l.ensures c.extent_at-r.ensures c.put_row.ensures
