use mathlib.Core.Path.{ap, ◌∙◌}
use native.Mathlib.Omega.{arith}
use Rattle.plan.specs.Questions.{passed}
use Rattle.planfile_spec.proofs.Laws.Answer.{label_err, label_ok}
use Rattle.planfile.proofs.label_refusal.Goals as goal

pub returns-in_err-plan : goal.returns-in_err-plan
returns-in_err-plan c = label_err c.args.file.now _ _ _ c.in_err-plan.ensures c.from_residual.ensures.1

pub returns : goal.returns
returns c = c.asked.ensures.numbered (omega arith) ∙ ap passed (label_ok c.args.file.now _ _ c.in_ok-plan.ensures)
