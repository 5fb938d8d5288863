use Rattle.sweeping.proofs.Passing.{said-no, said}
use Rattle.sweeping.proofs.Deciding.{ready, rows, small, decided, kept_alone, kept-clear, kept-beside}
use Rattle.whole.proofs.Laws.Says.{holds, fails, is_true}
use Rattle.sweeping.proofs.all_kept.Goals as goal

pub alone-requires : goal.alone-requires
alone-requires c = ready _ _ c.requires.0 c.requires.1

pub returns-then-not-alone : goal.returns-then-not-alone
returns-then-not-alone c = said-no (λ k. fails c.alone.ensures (c.if-not-alone.true) (kept_alone _ _ c.requires.0 c.requires.1 _ k))

pub order_of-order-requires : goal.order_of-order-requires
order_of-order-requires c = ready _ _ c.requires.0 c.requires.1

pub sides_of-sides-requires : goal.sides_of-sides-requires
sides_of-sides-requires c = ready _ _ c.requires.0 c.requires.1

pub gather-requires : goal.gather-requires
gather-requires c = (ready _ _ c.requires.0 c.requires.1, c.sides_of-sides.ensures.0.long)

pub gather-requires-2 : goal.gather-requires-2
gather-requires-2 c = (ready _ _ c.requires.0 c.requires.1, c.sides_of-sides.ensures.1.long)

pub beside-requires : goal.beside-requires
beside-requires c = record { ready = (ready _ _ c.requires.0 c.requires.1, c.order_of-order.ensures); small = (small _ _ c.requires.0 c.requires.1 c.sides_of-sides.ensures.0 c.sides_of-sides.ensures.1 c.gather.ensures c.gather-2.ensures, c.requires.2) }

pub returns-then-not-beside : goal.returns-then-not-beside
returns-then-not-beside c = said-no (λ k. fails c.beside.ensures (c.if-not-beside.true) (kept-beside _ _ c.requires.0 c.requires.1 c.sides_of-sides.ensures.0 c.sides_of-sides.ensures.1 c.gather.ensures c.gather-2.ensures _ k))

pub sweep-requires : goal.sweep-requires
sweep-requires c = (ready _ _ c.requires.0 c.requires.1, c.order_of-order.ensures, rows _ _ c.requires.0 c.requires.1 (holds c.alone.ensures (c.if-not-alone.false)))

pub returns : goal.returns
returns c = said _ (λ e. decided _ _ c.requires.0 c.requires.1 c.sides_of-sides.ensures.0 c.sides_of-sides.ensures.1 c.gather.ensures c.gather-2.ensures _ (holds c.alone.ensures (c.if-not-alone.false)) (holds c.beside.ensures (c.if-not-beside.false)) (holds c.sweep.ensures e)) (λ k. is_true c.sweep.ensures (kept-clear _ _ c.requires.0 c.requires.1 _ k))
