use Prim.Native.Nat.{◌-◌}
use Rattle.spans.proofs.Folding.{folding_starts, size_fits, folding_turns, folding_ends}
use Rattle.plan.proofs.Laws.Tables.{parent_lower}
use native.Mathlib.Omega.{arith}
use Rattle.spans.proofs.measure.Goals as goal

pub loop-c-init : goal.loop-c-init
loop-c-init c =
    let st = c in
    let a = st.args in
    folding_starts a.t st.requires

pub parent_of-f-requires : goal.parent_of-f-requires
parent_of-f-requires c =
    let a = c.args in
    let l = c.loop-c in
    (omega arith, parent_lower a.t c.requires (l.c - 1) (omega arith) (omega arith))

pub overflow_add-size : goal.overflow_add-size
overflow_add-size c =
    let a = c.args in
    let l = c.loop-c in
    omega (arith, size_fits a.t c.requires l.invariant c.loop-c-test.true c.parent_of-f.ensures.0)

pub loop-c-preserved : goal.loop-c-preserved
loop-c-preserved c =
    let a = c.args in
    let l = c.loop-c in
    folding_turns a.t c.requires l.invariant c.loop-c-test.true c.parent_of-f.ensures.0

pub returns : goal.returns
returns c =
    let a = c.args in
    let l = c.loop-c in
    folding_ends a.t c.requires l.invariant c.loop-c-test.false
