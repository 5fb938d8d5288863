use Rattle.spans.proofs.Numbering.{numbering_starts, many_fits, place-fits, numbering_turns, numbering_ends}
use Rattle.plan.proofs.Laws.Tables.{parent_lower}
use native.Mathlib.Omega.{arith}
use Rattle.spans.proofs.number.Goals as goal

pub loop-c-init : goal.loop-c-init
loop-c-init c =
    let a = c.args in
    numbering_starts a.t c.requires.fit a.links.now c.requires.links

pub parent_of-f-requires : goal.parent_of-f-requires
parent_of-f-requires c =
    let a = c.args in
    let l = c.loop-c in
    (omega arith, parent_lower a.t c.requires.fit l.c (omega arith) (omega arith))

pub place_of-requires : goal.place_of-requires
place_of-requires c =
    let a = c.args in
    let l = c.loop-c in
    omega (arith, c.requires.links.size, l.invariant.few)

pub overflow_add-nth : goal.overflow_add-nth
overflow_add-nth c =
    let a = c.args in
    let l = c.loop-c in
    omega (arith, c.place_of.ensures, place-fits a.t c.requires.fit a.links.now c.requires.links l.invariant c.loop-c-test.true c.parent_of-f.ensures.0)

pub overflow_add-many : goal.overflow_add-many
overflow_add-many c =
    let a = c.args in
    let l = c.loop-c in
    omega (arith, many_fits a.t c.requires.fit a.links.now c.requires.links l.invariant c.loop-c-test.true c.parent_of-f.ensures.0)

pub loop-c-preserved : goal.loop-c-preserved
loop-c-preserved c =
    let a = c.args in
    let l = c.loop-c in
    numbering_turns a.t c.requires.fit a.links.now c.requires.links l.invariant c.loop-c-test.true c.parent_of-f.ensures.0 c.place_of.ensures

pub returns : goal.returns
returns c =
    let a = c.args in
    let l = c.loop-c in
    numbering_ends a.t c.requires.fit a.links.now c.requires.links l.invariant c.loop-c-test.false
