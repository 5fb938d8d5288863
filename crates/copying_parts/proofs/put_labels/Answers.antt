use mathlib.Core.Path.{◌≡◌}
use Prim.Native.Nat.{◌+◌, ◌-◌, ◌≤◌}
use native.Mathlib.Omega.{arith}
use lib.ListN.{length, drop, length-drop}
use lib.Seq.{length-take-le}
use Rattle.copying_records.proofs.Laws.Put.{put-listed, laid_start, laid_room, laid_more, laid_all}
use Rattle.copying_parts.proofs.put_labels.Goals as goal

pub loop-c-init : goal.loop-c-init
loop-c-init c = laid_start _ _ _ _

pub slice_bounds-label-end : goal.slice_bounds-label-end
slice_bounds-label-end c = (laid_room _ _ _ _ _ _ _ _ c.requires.0 c.loop-c-test.true c.loop-c.invariant c.requires.1 _ _ c.from-start.ensures c.from-size.ensures).0

pub put_text-at-requires : goal.put_text-at-requires
put_text-at-requires c =
    let e : c.from-start.result + c.from-size.result - c.from-start.result ≡ c.from-size.result = omega arith in
    let h = laid_room _ _ _ _ _ _ _ _ c.requires.0 c.loop-c-test.true c.loop-c.invariant c.requires.1 _ _ c.from-start.ensures c.from-size.ensures in
    let d = drop c.from-start.result c.args.letters.now in
    let k : c.from-size.result ≤ length d = rw length-drop (omega (arith, h.0)) in
    rw (e, length-take-le c.from-size.result d k) h.1

pub loop-c-preserved : goal.loop-c-preserved
loop-c-preserved c =
    let e : c.from-start.result + c.from-size.result - c.from-start.result ≡ c.from-size.result = omega arith in
    laid_more _ _ _ _ _ _ _ _ c.requires.0 c.loop-c-test.true c.loop-c.invariant _ _ _ _ c.from-start.ensures c.from-size.ensures (put-listed (rw e at c.put_text-at.ensures))

pub returns : goal.returns
returns c = laid_all _ _ _ _ _ _ _ _ c.loop-c.invariant (omega arith)
