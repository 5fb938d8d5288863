use native.Mathlib.Omega.{arith}
use Rattle.plan.proofs.Laws.Answered.{each_err, each_ok, all_ok}
use Rattle.asking.proofs.levels_refusal.Goals as goal

pub returns-in_err-asked : goal.returns-in_err-asked
returns-in_err-asked c = each_err _ _ _ c.loop-c.invariant _ _ c.loop-c-test.true (rw c.at_most.ensures at c.in_err-asked.ensures.numbered (omega arith)) c.from_residual.ensures.1

pub loop-c-preserved : goal.loop-c-preserved
loop-c-preserved c = each_ok _ _ _ c.loop-c.invariant _ c.loop-c-test.true (rw c.at_most.ensures at c.in_ok-asked.ensures.numbered (omega arith))

pub returns : goal.returns
returns c = all_ok _ _ _ c.loop-c.invariant (omega (arith, c.loop-c-test.false))
