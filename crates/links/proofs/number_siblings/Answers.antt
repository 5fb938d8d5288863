use native.Mathlib.Omega.{arith}
use mathlib.Core.Path.{◌≡◌, refl}
use Rattle.links.specs.Build.{counted}
use Rattle.links.proofs.Laws.Build.{count-more}
use Rattle.links.proofs.Laws.Built.{numbering}
use Rattle.links.proofs.number_siblings.Goals as goal

pub loop-c-init : goal.loop-c-init
unfolding counted
loop-c-init c = refl

pub number_children-requires : goal.number_children-requires
number_children-requires c =
    let a = c.args in
    let l = c.loop-c in
    numbering a.n a.links.now c.requires l.c c.loop-c-test.true l.invariant

pub loop-c-preserved : goal.loop-c-preserved
loop-c-preserved c =
    let a = c.args in
    let l = c.loop-c in
    count-more a.links.now l.c l.invariant c.number_children.ensures

pub returns : goal.returns
returns c =
    let a = c.args in
    let l = c.loop-c in
    let e : l.c ≡ a.n = omega arith in
    rw e at l.invariant
