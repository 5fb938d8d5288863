use Rattle.sweeping.proofs.Passing.{said_yes, said-no, upto_next, upto_all}
use Rattle.whole.proofs.Laws.Says.{holds, fails}
use Rattle.sweeping.proofs.beside.Goals as goal

pub returns-then-not-beside_at : goal.returns-then-not-beside_at
returns-then-not-beside_at c = said-no (λ h. fails c.beside_at.ensures (c.if-not-beside_at.true) (h.each _ c.loop-v-test.true))

pub loop-v-preserved : goal.loop-v-preserved
loop-v-preserved c = upto_next c.loop-v.invariant (holds c.beside_at.ensures (c.if-not-beside_at.false))

pub returns : goal.returns
returns c = said_yes (record { each = upto_all c.loop-v.invariant c.loop-v-test.false })
