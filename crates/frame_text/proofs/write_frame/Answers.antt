use Rattle.printing.proofs.Laws.Taken.{taken}
use Rattle.frame_text.proofs.Laws.FrameText.{file_fit, file-refused, file-answered}
use Rattle.frame_text.proofs.write_frame.Goals as goal

pub write_answer-requires : goal.write_answer-requires
write_answer-requires c = (file_fit _ _ (taken _ _ c.in-Ok.ensures), c.requires)

pub returns-in-Ok : goal.returns-in-Ok
returns-in-Ok c =
    let r = c.write_answer.ensures in
    (file-answered _ _ (taken _ _ c.in-Ok.ensures) _ r.0, r.1)

pub returns-in-Err : goal.returns-in-Err
returns-in-Err c =
    let r = c.put_refusal.ensures in
    (file-refused _ _ c.in-Err.ensures _ r.0, r.1)
