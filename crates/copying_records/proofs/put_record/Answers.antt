use Rattle.plan.specs.Forms.{record_size}
use Rattle.content.proofs.Laws.Clean.{record_old, record_wide}
use Rattle.copying_records.specs.Parts.{Holds}
use Rattle.copying_records.proofs.put_record.Goals as goal

pub put_old-requires : goal.put_old-requires
put_old-requires c = unfold Holds record_size in rw c.in-Old.is at c.requires

pub put_wide-requires : goal.put_wide-requires
put_wide-requires c = unfold record_size in rw c.in-Wide.is at c.requires.1

pub returns-in-Old : goal.returns-in-Old
returns-in-Old c = rw (c.in-Old.is, record_old _) c.put_old.ensures

pub returns-in-Wide : goal.returns-in-Wide
returns-in-Wide c = rw (c.in-Wide.is, record_wide _) c.put_wide.ensures
