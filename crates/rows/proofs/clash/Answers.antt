use mathlib.Core.Path.{◌≡◌, refl}
use native.Mathlib.Omega.{arith}
use Rattle.rows.specs.Rows.{clash_to}
use Rattle.rows.proofs.Laws.Rows.{clash_to-more}
use Rattle.rows.proofs.clash.Goals as goal

pub loop-j-init : goal.loop-j-init
unfolding clash_to
loop-j-init c = refl

pub needed-requires : goal.needed-requires
needed-requires c =
    (rw c.extent_at.ensures (c.requires.2 _), rw c.extent_at-in-loop-j.ensures (c.requires.2 _))

pub loop-j-preserved : goal.loop-j-preserved
loop-j-preserved c =
    let a = c.args in
    cc (clash_to-more a.rows.now a.k a.x c.loop-j.j)

pub returns : goal.returns
returns c =
    let e : c.loop-j.j ≡ c.args.n = omega arith in
    cc
