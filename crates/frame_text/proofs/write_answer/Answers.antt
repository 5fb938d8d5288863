use Rattle.frame_text.proofs.Laws.FrameText.{answered}
use borrow.Author.Rules.{rules}
use Rattle.frame_text.proofs.write_answer.Goals as goal

pub returns : goal.returns
returns c =
    let r = c.tell.ensures in
    (answered _ _ c.frame-answer.ensures (search rules) r.0, r.1)
