use Rattle.why_search.proofs.Laws.Extremes.{extremes_start, extremes_turn, extremes_end}
use Rattle.why_search.proofs.span_of.Goals as goal

pub loop-c-init : goal.loop-c-init
loop-c-init c = extremes_start _ _ _ c.see-root.ensures c.requires.0

pub loop-c-preserved : goal.loop-c-preserved
loop-c-preserved c = extremes_turn _ _ c.loop-c.invariant c.loop-c-test.true _ c.see-v.ensures c.max-high.ensures c.min-low.ensures

pub returns : goal.returns
returns c = extremes_end _ _ c.loop-c.invariant c.loop-c-test.false
