use Rattle.looking_columns.proofs.Making.{duing_starts, duing_turns, duing_ends}
use Rattle.plan.proofs.Laws.Tables.{parent_lower}
use native.Mathlib.Omega.{arith}
use Rattle.looking_columns.proofs.dues.Goals as goal

pub loop-c-init : goal.loop-c-init
loop-c-init c = duing_starts c.args.t c.requires.0 c.args.base

pub parent_of-f-requires : goal.parent_of-f-requires
parent_of-f-requires c = let h = c.loop-c.invariant in (omega (arith, c.loop-c-test.true), parent_lower c.args.t c.requires.0 _ h.low c.loop-c-test.true)

pub loop-c-preserved : goal.loop-c-preserved
loop-c-preserved c = duing_turns c.args.t c.requires.0 c.args.base c.loop-c.invariant c.loop-c-test.true c.parent_of-f.ensures.0

pub returns : goal.returns
returns c = duing_ends c.args.t c.requires.0 c.args.base c.loop-c.invariant c.loop-c-test.false
