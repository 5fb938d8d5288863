use mathlib.Core.Path.{◌∙◌}
use Rattle.layout.proofs.Laws.Laid.{markable}
use Rattle.layout.proofs.place.Goals as goal

pub marks_of-requires : goal.marks_of-requires
marks_of-requires c =
    markable c.args.t c.requires.fit c.args.tops.now c.requires.rows _ c.requires.scratch

pub raised-requires : goal.raised-requires
raised-requires c =
    record { allowance = c.args.allowance; fit = c.requires.fit; marks = c.marks_of.ensures.rows_unchanged.1 }

pub returns : goal.returns
returns c =
    let m = c.marks_of.ensures.rows_unchanged in
    (c.raised.ensures c.args.allowance m.1, m.0 ∙ c.requires.scratch)
