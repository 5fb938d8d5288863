use Rattle.why_layers.proofs.Seeking.{seeking_stops, seeking_turns, seeking_ends}
use native.Mathlib.Omega.{arith}
use mathlib.Core.Path.{◌∙◌, sym}
use Rattle.why_layers.specs.Marks.{ending}
use Rattle.why_layers.proofs.ending.Goals as goal

pub returns-then-at_end : goal.returns-then-at_end
unfolding ending
returns-then-at_end c = seeking_stops c.loop-e.invariant c.loop-e-test.true (sym c.at_end.ensures ∙ c.if-at_end.true)

pub loop-e-preserved : goal.loop-e-preserved
loop-e-preserved c = seeking_turns c.loop-e.invariant c.loop-e-test.true (sym c.at_end.ensures ∙ c.if-at_end.false)

pub returns : goal.returns
unfolding ending
returns c = seeking_ends c.loop-e.invariant (omega arith) c.loop-e-test.false
