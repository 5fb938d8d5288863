use native.Mathlib.Omega.{arith}
use Rattle.planfile_spec.proofs.Laws.Format.{read_wide}
use Rattle.planfile_cursor.proofs.Cursor.wide_entry.Goals as goal

pub returns : goal.returns
returns c = (read_wide _ _ _ _ _ _ _ _ _ _ _ _ _ _ _ c.pair-parent.ensures.0 c.pair-parent.ensures.1 c.byte-kind.ensures.0 c.byte-kind.ensures.1 c.byte-depth.ensures.0 c.byte-depth.ensures.1 c.pair-width.ensures.0 c.pair-width.ensures.1 c.byte-label_length.ensures.0 c.byte-label_length.ensures.1 c.byte-rank.ensures.0 c.byte-rank.ensures.1 c.pair-label_start.ensures.0, omega (arith, c.pair-parent.ensures.1, c.byte-kind.ensures.1, c.byte-depth.ensures.1, c.pair-width.ensures.1, c.byte-label_length.ensures.1, c.byte-rank.ensures.1, c.pair-label_start.ensures.1))
