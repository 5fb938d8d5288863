use native.Mathlib.Omega.{arith}
use Rattle.looking.proofs.Searching.{ruling_starts, ruling_turns, ruling_stops, ruling_ends}
use Rattle.looking.proofs.search.search_rule.Goals as goal

pub loop-a-init : goal.loop-a-init
loop-a-init c = ruling_starts _ _ _ _

pub returns-in_err-search_row : goal.returns-in_err-search_row
returns-in_err-search_row c = ruling_stops c.loop-a.invariant c.loop-a-test.true c.in_err-search_row.ensures c.from_residual.ensures.1

pub loop-a-preserved : goal.loop-a-preserved
loop-a-preserved c = ruling_turns c.loop-a.invariant c.in_ok-search_row.ensures

pub returns : goal.returns
returns c = ruling_ends c.loop-a.invariant (omega arith) c.loop-a-test.false
