use Rattle.why_layers.proofs.Seeking.{seeking_stops, seeking_turns, seeking_ends, ready}
use native.Mathlib.Omega.{arith}
use mathlib.Core.Path.{◌∙◌, sym}
use Rattle.why_layers.specs.Marks.{source}
use Rattle.why_layers.proofs.source.Goals as goal

pub leads_on-requires : goal.leads_on-requires
leads_on-requires c = let h = c.requires in ready _ _ _ _ _ h.0 c.loop-a-test.true h.1 h.2

pub returns-then-leads_on : goal.returns-then-leads_on
unfolding source
returns-then-leads_on c = seeking_stops c.loop-a.invariant c.loop-a-test.true (sym c.leads_on.ensures ∙ c.if-leads_on.true)

pub loop-a-preserved : goal.loop-a-preserved
loop-a-preserved c = seeking_turns c.loop-a.invariant c.loop-a-test.true (sym c.leads_on.ensures ∙ c.if-leads_on.false)

pub returns : goal.returns
unfolding source
returns c = seeking_ends c.loop-a.invariant (omega arith) c.loop-a-test.false
