use mathlib.Core.Path.{◌∙◌}
use Rattle.planfile_spec.proofs.Laws.Format.{read_old}
use borrow.Author.Rules.{rules}
use Rattle.planfile_cursor.proofs.Cursor.old_entry.Goals as goal

pub returns : goal.returns
returns c = (read_old _ _ _ _ _ _ _ _ _ _ _ _ _ c.pair-parent.ensures.0 c.pair-parent.ensures.1 c.byte-kind.ensures.0 c.byte-kind.ensures.1 (c.from.ensures ∙ c.byte-width.ensures.0) c.byte-width.ensures.1 c.byte-depth.ensures.0 c.byte-depth.ensures.1 c.byte-label_length.ensures.0 c.byte-label_length.ensures.1 c.pair-label_start.ensures.0, search rules)
