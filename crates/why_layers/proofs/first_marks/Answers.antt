use Rattle.looking_columns.proofs.Making.{made-next, made_all}
use native.Mathlib.Omega.{arith}
use Rattle.why_layers.proofs.first_marks.Goals as goal

pub loop-c-preserved : goal.loop-c-preserved
loop-c-preserved c = made-next _ c.loop-c.invariant (omega (arith, c.requires, c.loop-c-test.true)) c.mark_first.ensures

pub returns : goal.returns
returns c = made_all _ c.loop-c.invariant (omega arith) c.loop-c-test.false
