use Rattle.looking_columns.proofs.Making.{made-next, made_all, within-at}
use native.Mathlib.Omega.{arith}
use Rattle.looking_columns.proofs.raised.Goals as goal

pub raise_at-requires : goal.raise_at-requires
raise_at-requires c = let h = c.loop-c.invariant in (omega (arith, h.3.room, c.loop-c-test.true), omega arith, within-at _ _ _ _ h.3 c.loop-c-test.true h.2)

pub loop-c-preserved : goal.loop-c-preserved
loop-c-preserved c = let h = c.loop-c.invariant in (omega (arith, c.loop-c-test.true), h.1, h.2, h.3, made-next _ h.4 (omega (arith, c.loop-c-test.true)) c.raise_at.ensures)

pub returns : goal.returns
returns c = let h = c.loop-c.invariant in made_all _ h.4 h.0 c.loop-c-test.false
