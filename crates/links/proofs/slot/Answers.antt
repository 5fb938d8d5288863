use native.Mathlib.Omega.{arith}
use Rattle.links.proofs.Laws.Build.{sought_start, sought_few, sought_next, sought_less, sought_end, passes, fails}
use Rattle.links.proofs.slot.Goals as goal

pub cell_at-s-requires : goal.cell_at-s-requires
cell_at-s-requires c = c.requires.inside

pub loop-at-init : goal.loop-at-init
loop-at-init c =
    let a = c.args in
    sought_start a.ranks.now a.links.now a.from a.q c.requires c.cell_at-s.ensures

pub goes_on-requires : goal.goes_on-requires
goes_on-requires c =
    let a = c.args in
    omega (arith, c.requires.ranks, sought_few a.ranks.now a.links.now a.from a.q c.requires c.loop-at.invariant)

pub overflow_mul-at : goal.overflow_mul-at
overflow_mul-at c =
    let a = c.args in
    omega (arith, sought_few a.ranks.now a.links.now a.from a.q c.requires c.loop-at.invariant)

pub overflow_add-at : goal.overflow_add-at
overflow_add-at c =
    let a = c.args in
    omega (arith, sought_few a.ranks.now a.links.now a.from a.q c.requires c.loop-at.invariant)

pub cell_at-s-requires-in-loop-at : goal.cell_at-s-requires-in-loop-at
cell_at-s-requires-in-loop-at c =
    let a = c.args in
    omega (arith, c.requires.room, sought_few a.ranks.now a.links.now a.from a.q c.requires c.loop-at.invariant)

pub loop-at-smaller : goal.loop-at-smaller
loop-at-smaller c =
    let a = c.args in
    sought_less a.ranks.now a.links.now a.from a.q c.requires c.loop-at.invariant (passes c.goes_on.ensures c.loop-at-test.true) c.cell_at-s-in-loop-at.ensures

pub loop-at-preserved : goal.loop-at-preserved
loop-at-preserved c =
    let a = c.args in
    sought_next a.ranks.now a.links.now a.from a.q c.requires c.loop-at.invariant (passes c.goes_on.ensures c.loop-at-test.true) c.cell_at-s-in-loop-at.ensures

pub returns : goal.returns
returns c =
    let a = c.args in
    sought_end a.ranks.now a.links.now a.from a.q c.requires c.loop-at.invariant (fails c.goes_on.ensures c.loop-at-test.false)
