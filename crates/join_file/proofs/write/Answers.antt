use mathlib.Core.Path.{sym}
use native.Mathlib.Omega.{arith}
use lib.Seq.{length-take-le}
use Rattle.join_file.proofs.Laws.Steps.{both-letters, write_done, write-refused}
use Rattle.join_file.proofs.write.Goals as goal

pub put_text-at-requires : goal.put_text-at-requires
put_text-at-requires c = omega (arith, c.requires.0)

pub put_text-end-requires : goal.put_text-end-requires
put_text-end-requires c = omega (arith, c.requires.0, c.requires.1, c.put_text-at.ensures.place, c.put_text-at.auto)

pub slice_bounds-both-end : goal.slice_bounds-both-end
slice_bounds-both-end c =
    let s = c.requires in
    omega (arith, (both-letters 32768 c.put_text-at.ensures c.put_text-end.ensures (omega (arith, s.0, s.1))).0, c.put_text-at.auto, c.put_text-end.auto)

pub slice_bounds-copy-end : goal.slice_bounds-copy-end
slice_bounds-copy-end c =
    let s = c.requires in
    sym (length-take-le _ _ (omega (arith, (both-letters 32768 c.put_text-at.ensures c.put_text-end.ensures (omega (arith, s.0, s.1))).0, c.put_text-at.auto, c.put_text-end.auto)))

pub returns-in_err-length : goal.returns-in_err-length
returns-in_err-length c =
    let s = c.requires in
    write-refused c.args.t.now c.args.first.now c.args.second.now _ _ _ _ (both-letters 32768 c.put_text-at.ensures c.put_text-end.ensures (omega (arith, s.0, s.1))).1 (rw c.from.ensures at c.in_err-length.ensures) c.from_residual.ensures.1

pub returns : goal.returns
returns c =
    let s = c.requires in
    write_done c.args.t.now c.args.first.now c.args.second.now _ _ (both-letters 32768 c.put_text-at.ensures c.put_text-end.ensures (omega (arith, s.0, s.1))).1 (rw c.from.ensures at c.in_ok-length.ensures)
