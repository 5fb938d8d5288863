use mathlib.Core.Path.{◌∙◌, ap}
use Rattle.std.specs.Prelude.{Ok}
use Rattle.plan.proofs.Laws.Answered.{answers_err, answers_ok, passes}
use Rattle.checker.specs.Checked.{checked_of}
use Rattle.checker.proofs.Judging.{accepted}
use Rattle.checker.proofs.check.Goals as goal

pub returns-in_err-refuse : goal.returns-in_err-refuse
unfolding checked_of
returns-in_err-refuse c = answers_err _ _ _ _ c.in_err-refuse.ensures c.from_residual.ensures.1

pub judge-requires : goal.judge-requires
judge-requires c = accepted c.args.t c.args.allowance c.args.positions.now (passes _ _ c.in_ok-refuse.ensures)

pub returns : goal.returns
unfolding checked_of
returns c = ap Ok c.judge.ensures ∙ answers_ok _ _ c.in_ok-refuse.ensures _
