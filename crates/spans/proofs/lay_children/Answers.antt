use native.Mathlib.Omega.{arith}
use mathlib.Core.Path.{refl}
use Rattle.spans.specs.Shared.{cols}
use Rattle.spans.proofs.Laying.{shares_start, shares_now, shares_fit, next_few, shares_next, shares_less, shares_end}
use Rattle.spans.proofs.lay_children.Goals as goal

pub link_of-s-requires : goal.link_of-s-requires
link_of-s-requires c =
    (omega (arith, c.requires.is, c.requires.links_long), omega arith)

pub loop-s-init : goal.loop-s-init
loop-s-init c =
    let a = c.args in
    shares_start a.links.now a.size.now (cols a.first.now a.end.now a.from.now a.to.now) a.f c.requires c.link_of-s.ensures refl

pub overflow_add-after : goal.overflow_add-after
overflow_add-after c =
    let a = c.args in
    let g = c.loop-s.invariant in
    omega (arith, shares_now a.links.now a.size.now (cols a.first.now a.end.now a.from.now a.to.now) a.f c.requires g c.loop-s-test.true)

pub link_of-next-requires : goal.link_of-next-requires
link_of-next-requires c =
    let g = c.loop-s.invariant in
    (omega (arith, c.requires.links_long, g.few), omega arith)

pub size_at-requires : goal.size_at-requires
size_at-requires c =
    let a = c.args in
    let g = c.loop-s.invariant in
    next_few a.links.now a.size.now (cols a.first.now a.end.now a.from.now a.to.now) a.f c.requires g c.loop-s-test.true c.link_of-next.ensures

pub overflow_add-to : goal.overflow_add-to
overflow_add-to c =
    let a = c.args in
    let g = c.loop-s.invariant in
    omega (arith, c.size_at.ensures, shares_fit a.links.now a.size.now (cols a.first.now a.end.now a.from.now a.to.now) a.f c.requires g c.loop-s-test.true c.link_of-next.ensures)

pub loop-s-smaller : goal.loop-s-smaller
loop-s-smaller c =
    let a = c.args in
    let g = c.loop-s.invariant in
    shares_less a.links.now a.size.now (cols a.first.now a.end.now a.from.now a.to.now) a.f c.requires g c.loop-s-test.true c.link_of-next.ensures

pub loop-s-preserved : goal.loop-s-preserved
loop-s-preserved c =
    let a = c.args in
    let g = c.loop-s.invariant in
    shares_next a.links.now a.size.now (cols a.first.now a.end.now a.from.now a.to.now) a.f c.requires g c.loop-s-test.true c.link_of-next.ensures c.size_at.ensures

pub returns : goal.returns
returns c =
    let a = c.args in
    let g = c.loop-s.invariant in
    shares_end a.links.now a.size.now (cols a.first.now a.end.now a.from.now a.to.now) a.f c.requires g (λ p. let n = c.loop-s-test.false in omega arith)
