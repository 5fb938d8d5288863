use Rattle.looking_columns.proofs.Making.{made_none, made-next, made_all}
use native.Mathlib.Omega.{arith}
use Rattle.why_search.proofs.between.rules_of.Goals as goal

pub loop-j-init : goal.loop-j-init
loop-j-init c = made_none _

pub rule_at-requires : goal.rule_at-requires
rule_at-requires c = let h = c.requires in (h.0, h.1, h.2, h.3, c.loop-j-test.true)

pub bounds-out-j : goal.bounds-out-j
bounds-out-j c = omega (arith, c.requires.0.few, c.requires.2, c.loop-j.invariant.long, c.loop-j-test.true)

pub loop-j-preserved : goal.loop-j-preserved
loop-j-preserved c = made-next _ c.loop-j.invariant (omega (arith, c.requires.0.few, c.requires.2, c.loop-j-test.true)) c.rule_at.ensures

pub returns : goal.returns
returns c = made_all _ c.loop-j.invariant (omega arith) c.loop-j-test.false
