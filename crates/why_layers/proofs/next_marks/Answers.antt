use Rattle.looking_columns.proofs.Making.{made-next, made_all}
use native.Mathlib.Omega.{arith}
use Rattle.why_layers.proofs.next_marks.Goals as goal

pub mark_next-requires : goal.mark_next-requires
mark_next-requires c = let h = c.requires in (h.0, c.loop-c-test.true, h.1, h.2)

pub loop-c-preserved : goal.loop-c-preserved
loop-c-preserved c = made-next _ c.loop-c.invariant (omega (arith, c.requires.0.few, c.loop-c-test.true)) c.mark_next.ensures

pub returns : goal.returns
returns c = made_all _ c.loop-c.invariant (omega arith) c.loop-c-test.false
