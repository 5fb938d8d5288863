use Rattle.sweeping.proofs.Passing.{said_yes, said-no, upto_next, upto_all}
use Rattle.whole.proofs.Laws.Says.{holds, fails}
use Rattle.sweeping.proofs.alone.Goals as goal

pub returns-then-not-alone_at : goal.returns-then-not-alone_at
returns-then-not-alone_at c = said-no (λ h. fails c.alone_at.ensures (c.if-not-alone_at.true) (h.each _ c.loop-c-test.true))

pub loop-c-preserved : goal.loop-c-preserved
loop-c-preserved c = upto_next c.loop-c.invariant (holds c.alone_at.ensures (c.if-not-alone_at.false))

pub returns : goal.returns
returns c = said_yes (record { each = upto_all c.loop-c.invariant c.loop-c-test.false })
