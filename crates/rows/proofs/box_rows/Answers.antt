use mathlib.Core.Path.{◌≡◌, refl}
use native.Mathlib.Omega.{arith}
use Rattle.rows.specs.Rows.{box_to}
use Rattle.rows.proofs.Laws.Rows.{box_to-more}
use Rattle.rows.proofs.box_rows.Goals as goal

pub loop-j-init : goal.loop-j-init
unfolding box_to
loop-j-init c = refl

pub loop-j-preserved : goal.loop-j-preserved
loop-j-preserved c =
    let a = c.args in
    cc (box_to-more a.rows.now a.k a.w c.loop-j.j)

pub returns : goal.returns
returns c =
    let e : c.loop-j.j ≡ c.args.n = omega arith in
    cc
