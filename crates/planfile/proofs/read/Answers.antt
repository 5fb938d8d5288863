use mathlib.Core.Path.{refl, ap, ◌∙◌}
use native.Mathlib.Omega.{arith}
use Rattle.plan.proofs.Laws.Answered.{passes}
use Rattle.planfile_spec.specs.Read.{answer_of}
use Rattle.planfile_spec.proofs.Laws.Answer.{short_read}
use Rattle.planfile_spec.proofs.Laws.Label.{read-on}
use Rattle.planfile.proofs.read.Goals as goal

pub returns-in_err-asked : goal.returns-in_err-asked
returns-in_err-asked c = short_read c.args.file.now _ _ _ (c.in_err-asked.ensures.numbered (omega arith)) c.from_residual.ensures.1 _ refl

pub returns : goal.returns
returns c = c.examined.ensures ∙ ap answer_of (read-on c.args.file.now _ _ refl (passes _ _ (c.in_ok-asked.ensures.numbered (omega arith))))
