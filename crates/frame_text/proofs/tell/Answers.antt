use Rattle.frame_text.proofs.Laws.FrameText.{tell_allowance, tell_none, tell_refused}
use Rattle.frame_text.proofs.tell.Goals as goal

pub returns-in-Ok-Some : goal.returns-in-Ok-Some
returns-in-Ok-Some c =
    let r = c.put_allowance.ensures in
    (tell_allowance _ _ c.in-Ok-Some.is (rw c.in-Ok-Some.is at c.in-Ok-Some.field-0-is) c.measured-m.ensures r.0, r.1)

pub returns-in-Ok-None : goal.returns-in-Ok-None
returns-in-Ok-None c =
    let r = c.put_none.ensures in
    (tell_none _ _ c.in-Ok-None.is (rw c.in-Ok-None.is at c.in-Ok-None.field-0-is) c.measured-m-in-Ok-None.ensures r.0, r.1)

pub returns-in-Err : goal.returns-in-Err
returns-in-Err c =
    let r = c.put_refusal.ensures in
    (tell_refused _ c.in-Err.is r.0, r.1)
