use Rattle.checker.proofs.Widening.{widening_starts, low_high, widening_turns, widening_ends}
use native.Mathlib.Omega.{arith}
use Rattle.checker.proofs.width_of.Goals as goal

pub loop-c-init : goal.loop-c-init
loop-c-init c = widening_starts _ _ c.requires _ c.see-root.ensures

pub loop-c-preserved : goal.loop-c-preserved
loop-c-preserved c = widening_turns _ _ c.requires c.loop-c.invariant c.loop-c-test.true _ c.see-v.ensures c.max-high.ensures c.min-low.ensures

pub overflow_sub-result : goal.overflow_sub-result
overflow_sub-result c = let h = low_high _ _ c.requires c.loop-c.invariant in omega arith

pub returns : goal.returns
returns c = widening_ends _ _ c.requires c.loop-c.invariant c.loop-c-test.false
