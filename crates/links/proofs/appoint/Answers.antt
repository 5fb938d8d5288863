use Rattle.links.proofs.Laws.Build.{placed_small, placed-more, appointed_small}
use Rattle.links.specs.Build.{placed}
use native.Mathlib.Omega.{arith}
use mathlib.Core.Path.{◌≡◌, refl}
use lib.ListN.{get_or}
use Rattle.links.proofs.appoint.Goals as goal

pub loop-c-init : goal.loop-c-init
unfolding placed
loop-c-init c = refl

pub appointed-first-requires : goal.appointed-first-requires
appointed-first-requires c =
    let a = c.args in
    let l = c.loop-c in
    let q = placed_small a.t.now.kind a.links.now a.t.now.count l.c c.requires c.loop-c-test.true l.invariant c.count_of.ensures in
    omega (arith, q)

pub overflow_sub-links : goal.overflow_sub-links
overflow_sub-links c =
    let a = c.args in
    let l = c.loop-c in
    let q = placed_small a.t.now.kind a.links.now a.t.now.count l.c c.requires c.loop-c-test.true l.invariant c.count_of.ensures in
    omega (arith, c.appointed-first.ensures, appointed_small (get_or c.args.t.now.kind l.c 0) c.count_of.result q)

pub overflow_cast-links : goal.overflow_cast-links
overflow_cast-links c =
    let a = c.args in
    let l = c.loop-c in
    let q = placed_small a.t.now.kind a.links.now a.t.now.count l.c c.requires c.loop-c-test.true l.invariant c.count_of.ensures in
    omega (arith, c.appointed-first.ensures, appointed_small (get_or c.args.t.now.kind l.c 0) c.count_of.result q)

pub loop-c-preserved : goal.loop-c-preserved
loop-c-preserved c =
    let a = c.args in
    let l = c.loop-c in
    placed-more a.t.now.kind a.links.now l.c l.invariant refl c.count_of.ensures c.appointed-first.ensures

pub returns : goal.returns
returns c =
    let l = c.loop-c in
    let e : l.c ≡ c.args.t.now.count = omega arith in
    rw e at l.invariant
