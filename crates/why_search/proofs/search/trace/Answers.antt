use Rattle.why_search.proofs.Laws.Explained.{tracing_starts, tracing_turns, tracing_ends, tracing_holds}
use native.Mathlib.Omega.{arith}
use Rattle.spans.proofs.Laws.Columns.{all, all-long}
use Rattle.why_search.proofs.search.trace.Goals as goal

pub bounds-out-count : goal.bounds-out-count
bounds-out-count c = let h = c.requires in omega (arith, h.0.few, h.2, all-long 0)

pub loop-k-init : goal.loop-k-init
loop-k-init c = let h = c.requires in tracing_starts _ _ _ _ _ _ (all 0) (all-long 0) h.2 h.0.few h.3

pub source-requires : goal.source-requires
source-requires c = let h = c.requires in (h.0, c.loop-k.invariant.b_is, h.1)

pub returns-in_default : goal.returns-in_default
returns-in_default c = tracing_holds _ _ _ _ _ _ _ _ _ c.loop-k.invariant c.loop-k-test.true c.in_default.ensures

pub bounds-out-k : goal.bounds-out-k
bounds-out-k c = let h = c.loop-k.invariant in omega (arith, c.requires.0.few, c.requires.2, h.long, h.k_high, c.loop-k-test.true)

pub loop-k-preserved : goal.loop-k-preserved
loop-k-preserved c = tracing_turns _ _ _ _ _ _ _ _ _ _ c.loop-k.invariant c.loop-k-test.true c.requires.0.few c.requires.2 c.in-Some.ensures

pub returns : goal.returns
returns c = tracing_ends _ _ _ _ _ _ _ _ _ c.loop-k.invariant c.loop-k-test.false
