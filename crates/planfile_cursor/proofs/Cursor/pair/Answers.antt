use mathlib.Core.Path.{◌∙◌}
use Rattle.planfile_spec.specs.Fields.{pair}
use borrow.Author.Rules.{rules}
use Rattle.planfile_cursor.proofs.Cursor.pair.Goals as goal

pub returns : goal.returns
unfolding pair
returns c =
    let low = c.byte-low.ensures in
    (c.joined.ensures ∙ rw (low.0, c.byte-high.ensures.0, low.1), search rules)
