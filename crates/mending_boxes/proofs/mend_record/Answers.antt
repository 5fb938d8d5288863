use Rattle.mending_boxes.proofs.Laws.Code.{record_mended}
use Rattle.mending_boxes.proofs.mend_record.Goals as goal

pub returns : goal.returns
returns c = record_mended _ _ _ _ _ c.entry-entry.ensures.0 c.raise_width.ensures c.raise_depth.ensures
