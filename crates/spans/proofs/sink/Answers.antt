use Rattle.spans.proofs.Sinking.{sinking_starts, sinking_turns, sinking_ends}
use Rattle.plan.proofs.Laws.Tables.{parent_lower}
use native.Mathlib.Omega.{arith}
use borrow.Author.Rules.{rules}
use Rattle.spans.proofs.sink.Goals as goal

pub loop-c-init : goal.loop-c-init
loop-c-init c = sinking_starts c.args.t c.requires _ (search rules)

pub parent_of-f-requires : goal.parent_of-f-requires
parent_of-f-requires c = (omega arith, parent_lower c.args.t c.requires _ (omega arith) (omega arith))

pub loop-c-preserved : goal.loop-c-preserved
loop-c-preserved c = sinking_turns c.args.t c.requires c.loop-c.invariant c.loop-c-test.true c.parent_of-f.ensures.0 c.max.ensures

pub returns : goal.returns
returns c = sinking_ends c.args.t c.requires c.loop-c.invariant c.loop-c-test.false
