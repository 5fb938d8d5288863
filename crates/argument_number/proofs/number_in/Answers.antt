use mathlib.Core.Path.{◌∙◌}
use Rattle.argument_number.proofs.Laws.Number.{digits-none, digits_more, no_text, no-more, whole-text}
use Rattle.argument_number.proofs.number_in.Goals as goal

pub returns-then-text-eq0 : goal.returns-then-text-eq0
returns-then-text-eq0 c = no_text _ c.if-text-eq0.true

pub loop-b-init : goal.loop-b-init
loop-b-init c = digits-none

pub returns-in_err-n : goal.returns-in_err-n
returns-in_err-n c = c.from_residual.ensures ∙ no-more _ _ _ c.loop-b-test.true c.loop-b.invariant c.in_err-n.ensures

pub loop-b-preserved : goal.loop-b-preserved
loop-b-preserved c = digits_more _ _ _ _ c.loop-b-test.true c.loop-b.invariant c.in_ok-n.ensures

pub returns : goal.returns
returns c = whole-text _ _ _ c.if-text-eq0.false c.loop-b-test.false c.loop-b.invariant
