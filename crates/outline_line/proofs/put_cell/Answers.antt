use Rattle.outline_line.proofs.Laws.Written.{line-put}
use Rattle.outline_line.proofs.put_cell.Goals as goal

pub returns : goal.returns
returns c =
    line-put _ _ _ _ c.args.cell _ c.requires.level_is c.natural-usual.ensures c.nearest-above.ensures c.put_indent-blank.ensures.0 c.put_word-named.ensures.0
    (rw c.from.ensures at c.put_field-a.ensures.0) (rw c.from-2.ensures at c.put_field-b.ensures.0) (rw c.from-3.ensures at c.put_field-d.ensures.0) (rw c.from-4.ensures at c.put_field-e.ensures.0) c.put_label-f.ensures.0 c.put_byte.ensures
