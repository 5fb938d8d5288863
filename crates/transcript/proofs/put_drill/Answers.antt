use native.Mathlib.Omega.{arith}
use Rattle.printing.proofs.Laws.Taken.{put_short}
use Rattle.transcript.proofs.Laws.Transcript.{put_last}
use Rattle.transcript.proofs.put_drill.Goals as goal

pub returns : goal.returns
returns c =
    let s = c.put_steps-next.ensures in
    let e = c.end_line-last.ensures in
    let v = c.put_line.ensures in
    (put_last _ _ s.0 e.0 v, omega (arith, s.1, put_short _ v e.1, c.requires.1.few))
