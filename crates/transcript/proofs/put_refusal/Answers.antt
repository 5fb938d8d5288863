use native.Mathlib.Omega.{arith}
use Rattle.printing.proofs.Laws.Taken.{put_short}
use Rattle.transcript.proofs.Laws.Transcript.{put_alone}
use Rattle.transcript.proofs.put_refusal.Goals as goal

pub returns : goal.returns
returns c =
    let l = c.refused_line-line.ensures in
    let v = c.put_line.ensures in
    (put_alone _ _ (rw (c.from.ensures, c.from-2.ensures) at l.0) v, omega (arith, put_short _ v l.1))
