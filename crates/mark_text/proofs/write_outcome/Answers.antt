use Rattle.mark_text.proofs.Laws.Text.{mark-put, unread-put, refused-put}
use Rattle.mark_text.proofs.write_outcome.Goals as goal

pub returns-in-Ok : goal.returns-in-Ok
returns-in-Ok c = (mark-put _ _ _ c.in-Ok.is c.write_marked.ensures.0, c.write_marked.ensures.1)

pub returns-in-Wrong : goal.returns-in-Wrong
returns-in-Wrong c = (unread-put _ _ _ _ c.in-Err.is c.in-Wrong.is c.write_unread.ensures.0, c.write_unread.ensures.1)

pub returns-in-Refused : goal.returns-in-Refused
returns-in-Refused c = (refused-put _ _ _ _ c.in-Err.is c.in-Refused.is c.write_marked-in-Refused.ensures.0, c.write_marked-in-Refused.ensures.1)
