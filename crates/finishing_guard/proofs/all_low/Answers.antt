use Rattle.std.proofs.Common.{◌≡◌, arith, length}
use Rattle.finishing_guard.proofs.Laws.Guard.{upto-none, upto-more, upto_low}
use Rattle.finishing_guard.proofs.all_low.Goals as goal

pub loop-i-init : goal.loop-i-init
loop-i-init c = upto-none c.args.xs.now

pub loop-i-preserved : goal.loop-i-preserved
loop-i-preserved c = upto-more c.args.xs.now c.loop-i.greatest c.loop-i.i _ c.loop-i.invariant (omega (arith, c.max-greatest.ensures))

pub returns : goal.returns
returns c =
    let e : c.loop-i.i ≡ length c.args.xs.now = omega arith in
    upto_low c.args.xs.now c.loop-i.greatest (rw e at c.loop-i.invariant)
