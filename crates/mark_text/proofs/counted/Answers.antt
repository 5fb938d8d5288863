use Rattle.mark_text.proofs.Laws.Text.{counted_full, counted_wide, counted_broken, counted_refused, counted_unread}
use Rattle.mark_text.proofs.counted.Goals as goal

pub returns-in-Full : goal.returns-in-Full
returns-in-Full c = counted_full _ _ _ c.in-Ok.is _ c.in-Full.is _ _ c.more.ensures c.more-in-Full.ensures

pub returns-in-Wide : goal.returns-in-Wide
returns-in-Wide c = counted_wide _ _ _ c.in-Ok.is _ _ c.in-Wide.is _ _ c.more.ensures c.more-in-Wide.ensures

pub returns-in-Broken : goal.returns-in-Broken
returns-in-Broken c = counted_broken _ _ _ c.in-Ok.is _ c.in-Broken.is _ _ c.more.ensures c.more-in-Broken.ensures

pub returns-in-Refused : goal.returns-in-Refused
returns-in-Refused c = counted_refused _ _ _ c.in-Err.is _ c.in-Refused.is _ _ c.more.ensures c.more-in-Refused.ensures

pub returns-in-Wrong : goal.returns-in-Wrong
returns-in-Wrong c = counted_unread _ _ _ c.in-Err.is _ c.in-Wrong.is _ _ c.more.ensures c.more-in-Wrong.ensures
