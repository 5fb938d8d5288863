use native.Mathlib.Omega.{arith}
use Rattle.why_lines.proofs.Laws.Steps.{put-no-steps, put_step, put-steps-done}
use Rattle.why_lines.proofs.put_steps.Goals as goal

pub loop-j-init : goal.loop-j-init
loop-j-init c = record { place = omega arith; put = put-no-steps _ _ _ _ _ }

pub put_step-next-requires : goal.put_step-next-requires
put_step-next-requires c = let i = c.loop-j.invariant in let p = c.requires in (p.0, c.loop-j-test.true, omega (arith, i.place, p.1, c.loop-j-test.true))

pub loop-j-preserved : goal.loop-j-preserved
loop-j-preserved c =
    let i = c.loop-j.invariant in
    let e = c.put_step-next.ensures in
    record { place = omega (arith, i.place, e.1); put = put_step _ _ _ _ i.put e.0 }

pub returns : goal.returns
returns c =
    let i = c.loop-j.invariant in
    (put-steps-done _ _ _ _ _ i.put (omega arith) c.loop-j-test.false, omega (arith, i.place, c.loop-j-test.false))
