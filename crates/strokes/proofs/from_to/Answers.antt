use Rattle.plan.proofs.Laws.Questions.{and_yes, and_no}
use mathlib.Core.Path.{sym}
use Rattle.plan.specs.Pages.{from_to}
use Rattle.strokes.proofs.from_to.Goals as goal

pub returns-then-low-x : goal.returns-then-low-x
unfolding from_to
returns-then-low-x c = sym (and_yes _ _ c.if-low-x.true)

pub returns : goal.returns
unfolding from_to
returns c = sym (and_no _ _ c.if-low-x.false)
