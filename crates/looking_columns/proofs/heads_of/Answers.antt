use Rattle.looking_columns.proofs.Making.{heading_starts, heading_turns, made_all}
use native.Mathlib.Omega.{arith}
use Rattle.looking_columns.proofs.heads_of.Goals as goal

pub loop-c-init : goal.loop-c-init
loop-c-init c = heading_starts c.args.t c.requires.0 _

pub appointed-requires : goal.appointed-requires
appointed-requires c = let h = c.loop-c.invariant in omega (arith, c.requires.1.short _ c.loop-c-test.true)

pub loop-c-preserved : goal.loop-c-preserved
loop-c-preserved c = heading_turns c.args.t c.requires.0 _ c.loop-c.invariant c.loop-c-test.true c.from.ensures c.appointed.ensures

pub returns : goal.returns
returns c = let h = c.loop-c.invariant in (made_all _ h.heads h.high c.loop-c-test.false, made_all _ h.middles h.high c.loop-c-test.false)
