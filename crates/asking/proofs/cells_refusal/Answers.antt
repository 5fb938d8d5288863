use mathlib.Core.Path.{sym, ap, ◌∙◌}
use native.Mathlib.Omega.{arith}
use Rattle.plan.specs.Questions.{passed}
use Rattle.plan.proofs.Laws.Steps.{cells-columns}
use Rattle.plan.proofs.Laws.Answered.{each_err, each_ok, all_ok}
use Rattle.asking.proofs.cells_refusal.Goals as goal

pub returns-in_err-cell_refusal : goal.returns-in_err-cell_refusal
returns-in_err-cell_refusal c =
    λ qs. each_err _ _ _ c.loop-c.invariant _ _ c.loop-c-test.true c.in_err-cell_refusal.ensures c.from_residual.ensures.1 ∙ ap passed (sym (cells-columns _ _ _ _ qs _))

pub loop-c-preserved : goal.loop-c-preserved
loop-c-preserved c = each_ok _ _ _ c.loop-c.invariant _ c.loop-c-test.true c.in_ok-cell_refusal.ensures

pub returns : goal.returns
returns c = λ qs. all_ok _ _ _ c.loop-c.invariant (omega (arith, c.loop-c-test.false)) ∙ ap passed (sym (cells-columns _ _ _ _ qs _))
