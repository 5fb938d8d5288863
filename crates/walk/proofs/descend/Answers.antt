use Rattle.walk.proofs.Laws.Falls.{falling_room, falling_on, falling_done, visiting_down}
use lib.ListN.{length-set}
use native.Mathlib.Omega.{arith}
use mathlib.Core.Path.{refl}
use Rattle.walk.proofs.descend.Goals as goal

pub loop-n-init : goal.loop-n-init
loop-n-init c = (record { left = 32; falls = c.requires.falls; same = refl }, c.requires.cells_len, omega arith)

pub overflow_cast-cells : goal.overflow_cast-cells
overflow_cast-cells c = omega (arith, falling_room c.loop-n.invariant.0 c.loop-n-test.true)

pub offset_bounds-cells-k : goal.offset_bounds-cells-k
offset_bounds-cells-k c = omega (arith, falling_room c.loop-n.invariant.0 c.loop-n-test.true)

pub bounds-cells-k : goal.bounds-cells-k
bounds-cells-k c = omega (arith, falling_room c.loop-n.invariant.0 c.loop-n-test.true)

pub overflow_add-k : goal.overflow_add-k
overflow_add-k c = omega (arith, falling_room c.loop-n.invariant.0 c.loop-n-test.true)

pub link_of-n-requires : goal.link_of-n-requires
link_of-n-requires c = ((falling_room c.loop-n.invariant.0 c.loop-n-test.true).1, omega arith)

pub loop-n-smaller : goal.loop-n-smaller
loop-n-smaller c = omega (arith, falling_room c.loop-n.invariant.0 c.loop-n-test.true)

pub loop-n-preserved : goal.loop-n-preserved
loop-n-preserved c =
    let l = c.loop-n in
    (falling_on c.args.links.now l.k l.n l.cells _ l.invariant.0 c.loop-n-test.true l.invariant.1 c.link_of-n.ensures, simp length-set l.invariant.1, omega (arith, l.invariant.2))

pub returns : goal.returns
returns c =
    let l = c.loop-n in
    let e = falling_done l.invariant.0 (omega (arith, c.loop-n-test.false)) in
    record { result_after = e; lower_bound = l.invariant.2; descends = λ b m xs ms q v. visiting_down b m (rw q c.requires.falls) v l.cells l.k (rw q e) }
