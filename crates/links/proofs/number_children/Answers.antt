use native.Mathlib.Omega.{arith}
use lib.ListN.{length-set}
use Rattle.links.proofs.Laws.Build.{numbered-start, number_few, number_low, numbered_next, numbered_less, numbered-end}
use Rattle.links.proofs.number_children.Goals as goal

pub overflow_mul-f : goal.overflow_mul-f
overflow_mul-f c =
    let a = c.args in
    omega (arith, c.requires.is)

pub cell_at-s-requires : goal.cell_at-s-requires
cell_at-s-requires c =
    let a = c.args in
    omega (arith, c.requires.is, c.requires.room)

pub loop-s-init : goal.loop-s-init
loop-s-init c =
    let a = c.args in
    numbered-start a.links.now a.f c.requires c.cell_at-s.ensures

pub overflow_mul-links : goal.overflow_mul-links
overflow_mul-links c =
    let a = c.args in
    let g = c.loop-s.invariant in
    omega (arith, c.requires.room, number_few a.links.now a.f c.requires g)

pub overflow_add-links : goal.overflow_add-links
overflow_add-links c =
    let a = c.args in
    let g = c.loop-s.invariant in
    omega (arith, c.requires.room, number_few a.links.now a.f c.requires g)

pub offset_bounds-links-s : goal.offset_bounds-links-s
offset_bounds-links-s c =
    let a = c.args in
    let g = c.loop-s.invariant in
    omega (arith, c.requires.room, number_few a.links.now a.f c.requires g)

pub bounds-links-s : goal.bounds-links-s
bounds-links-s c =
    let a = c.args in
    let g = c.loop-s.invariant in
    let n = g.long in
    omega (arith, c.requires.room, number_few a.links.now a.f c.requires g)

pub overflow_add-k : goal.overflow_add-k
overflow_add-k c =
    let a = c.args in
    let g = c.loop-s.invariant in
    omega (arith, number_low a.links.now a.f c.requires g)

pub overflow_mul-s : goal.overflow_mul-s
overflow_mul-s c =
    let a = c.args in
    let g = c.loop-s.invariant in
    omega (arith, c.requires.room, number_few a.links.now a.f c.requires g)

pub overflow_add-s : goal.overflow_add-s
overflow_add-s c =
    let a = c.args in
    let g = c.loop-s.invariant in
    omega (arith, c.requires.room, number_few a.links.now a.f c.requires g)

pub cell_at-s-requires-in-loop-s : goal.cell_at-s-requires-in-loop-s
cell_at-s-requires-in-loop-s c =
    let a = c.args in
    let g = c.loop-s.invariant in
    let n = g.long in
    simp length-set (omega (arith, c.requires.room, number_few a.links.now a.f c.requires g))

pub loop-s-smaller : goal.loop-s-smaller
loop-s-smaller c =
    let a = c.args in
    let g = c.loop-s.invariant in
    numbered_less a.links.now a.f c.requires g c.loop-s-test.true c.cell_at-s-in-loop-s.ensures

pub loop-s-preserved : goal.loop-s-preserved
loop-s-preserved c =
    let a = c.args in
    let g = c.loop-s.invariant in
    numbered_next a.links.now a.f c.requires g c.loop-s-test.true c.cell_at-s-in-loop-s.ensures

pub overflow_mul-links-2 : goal.overflow_mul-links-2
overflow_mul-links-2 c =
    let a = c.args in
    omega (arith, c.requires.is)

pub overflow_add-links-2 : goal.overflow_add-links-2
overflow_add-links-2 c =
    let a = c.args in
    omega (arith, c.requires.is)

pub offset_bounds-links-f : goal.offset_bounds-links-f
offset_bounds-links-f c =
    let a = c.args in
    omega (arith, c.requires.is)

pub bounds-links-f : goal.bounds-links-f
bounds-links-f c =
    let a = c.args in
    let g = c.loop-s.invariant in
    omega (arith, c.requires.is, c.requires.room, g.long)

pub shape_of-links : goal.shape_of-links
shape_of-links c =
    let a = c.args in
    let g = c.loop-s.invariant in
    simp length-set g.long

pub returns : goal.returns
returns c =
    let a = c.args in
    let g = c.loop-s.invariant in
    numbered-end a.links.now a.f c.requires g (λ p. let n = c.loop-s-test.false in omega arith)
