use Rattle.std.proofs.Common.{◌≡◌, refl, arith, length, length-set}
use Rattle.listing.proofs.Laws.Put.{put-start, put-more, put_all}
use Rattle.listing.proofs.put.put_text.Goals as goal

pub loop-i-init : goal.loop-i-init
loop-i-init c = (refl, put-start _ _)

pub loop-i-preserved : goal.loop-i-preserved
loop-i-preserved c = (simp length-set c.loop-i.invariant.0, put-more _ c.loop-i.invariant.1 (omega arith))

pub returns : goal.returns
returns c = let e : c.loop-i.i ≡ length c.args.text.now = omega arith in rw e at (put_all _ c.loop-i.invariant.1 (omega arith))
