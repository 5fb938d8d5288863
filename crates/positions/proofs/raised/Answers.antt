use mathlib.Core.Path.{◌≡◌, refl}
use native.Mathlib.Omega.{arith}
use lib.ListN.{length-set, replicate}
use Rattle.plan.specs.Limits.{farthest, most_cells}
use Rattle.positions.proofs.Laws.Raised.{counted, raised-start, Turn, turn}
use Rattle.positions.proofs.raised.Goals as goal
use Rattle.positions.proofs.raised.Goals.{After-from-f}

-- the facts of a turn, once the parent is read
at_turn : (c : After-from-f) → Turn c.args.t c.args.marks.now c.requires c.loop-c.xs c.loop-c.c c.from-f.result
at_turn c = turn _ _ c.requires _ _ _ c.loop-c.invariant.0 (omega arith) c.loop-c-test.true c.from-f.ensures c.loop-c.invariant.1

pub loop-c-init : goal.loop-c-init
loop-c-init c = (refl, raised-start c.args.t c.args.marks.now c.requires (replicate most_cells farthest) refl)

pub offset_bounds-t-c : goal.offset_bounds-t-c
offset_bounds-t-c c = omega (arith, counted c.args.t c.args.marks.now c.requires)

pub bounds-t-c : goal.bounds-t-c
bounds-t-c c = omega (arith, counted c.args.t c.args.marks.now c.requires)

pub bounds-xs-f : goal.bounds-xs-f
bounds-xs-f c = omega (arith, (at_turn (goal.at.bounds-xs-f c).After-from-f).room, (at_turn (goal.at.bounds-xs-f c).After-from-f).lower)

pub mark_of-requires : goal.mark_of-requires
mark_of-requires c = omega (arith, (at_turn (goal.at.mark_of-requires c).After-from-f).room)

pub overflow_add-right : goal.overflow_add-right
overflow_add-right c = omega (arith, (at_turn (goal.at.overflow_add-right c).After-from-f).low, c.mark_of.ensures)

pub mark_of-requires-in-loop-c : goal.mark_of-requires-in-loop-c
mark_of-requires-in-loop-c c = omega (arith, (at_turn (goal.at.mark_of-requires-in-loop-c c).After-from-f).room, (at_turn (goal.at.mark_of-requires-in-loop-c c).After-from-f).lower)

pub overflow_sub-xs : goal.overflow_sub-xs
overflow_sub-xs c = omega (arith, (at_turn (goal.at.overflow_sub-xs c).After-from-f).enough, c.mark_of.ensures, c.mark_of-in-loop-c.ensures)

pub offset_bounds-xs-c : goal.offset_bounds-xs-c
offset_bounds-xs-c c = omega (arith, (at_turn (goal.at.offset_bounds-xs-c c).After-from-f).room)

pub bounds-xs-c : goal.bounds-xs-c
bounds-xs-c c = omega (arith, (at_turn (goal.at.bounds-xs-c c).After-from-f).room)

pub loop-c-preserved : goal.loop-c-preserved
loop-c-preserved c =
    let l = c.loop-c in
    (simp length-set l.invariant.0, rw (c.mark_of.ensures, c.mark_of-in-loop-c.ensures) (at_turn (goal.at.loop-c-preserved c).After-from-f).again)

pub returns : goal.returns
returns c =
    let l = c.loop-c in
    let e : l.c ≡ c.args.t.count = omega (arith, counted c.args.t c.args.marks.now c.requires) in
    rw e at l.invariant.1
