use mathlib.Core.Path.{◌≡◌, refl}
use native.Mathlib.Omega.{arith}
use Rattle.rows.specs.Rows.{max_to}
use Rattle.rows.proofs.Laws.Rows.{max_to-more}
use Rattle.rows.proofs.column_max.Goals as goal

pub loop-j-init : goal.loop-j-init
unfolding max_to
loop-j-init c = refl

pub loop-j-preserved : goal.loop-j-preserved
loop-j-preserved c =
    let a = c.args in
    cc (max_to-more a.rows.now a.k c.loop-j.j)

pub returns : goal.returns
returns c =
    let e : c.loop-j.j ≡ c.args.n = omega arith in
    cc
