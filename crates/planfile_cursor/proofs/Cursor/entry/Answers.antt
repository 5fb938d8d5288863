use Rattle.plan.specs.Forms.{record_size}
use Rattle.planfile_cursor.proofs.Cursor.entry.Goals as goal

pub old_entry-requires : goal.old_entry-requires
old_entry-requires c = unfold record_size in rw c.in-Old.is at c.requires

pub wide_entry-requires : goal.wide_entry-requires
wide_entry-requires c = unfold record_size in rw c.in-Wide.is at c.requires

pub returns-in-Old : goal.returns-in-Old
unfolding record_size
returns-in-Old c = rw c.in-Old.is c.old_entry.ensures

pub returns-in-Wide : goal.returns-in-Wide
unfolding record_size
returns-in-Wide c = rw c.in-Wide.is c.wide_entry.ensures
