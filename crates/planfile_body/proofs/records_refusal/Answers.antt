use native.Mathlib.Omega.{arith}
use Rattle.plan.proofs.Laws.Answered.{each_err, each_ok, all_ok}
use Rattle.planfile_body.proofs.records_refusal.Goals as goal

pub returns-in_err-record_refusal : goal.returns-in_err-record_refusal
returns-in_err-record_refusal c = each_err _ _ _ c.loop-c.invariant _ _ c.loop-c-test.true c.in_err-record_refusal.ensures c.from_residual.ensures.1

pub loop-c-preserved : goal.loop-c-preserved
loop-c-preserved c = each_ok _ _ _ c.loop-c.invariant _ c.loop-c-test.true c.in_ok-record_refusal.ensures

pub returns : goal.returns
returns c = all_ok _ _ _ c.loop-c.invariant (omega (arith, c.loop-c-test.false))
