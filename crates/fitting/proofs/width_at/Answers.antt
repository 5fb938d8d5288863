use Rattle.plan.specs.Columns.{table_of}
use Rattle.contours.specs.Sheet.{sheet}
use Rattle.layout.proofs.Laws.Laid.{fit_lower, high}
use Rattle.fitting.proofs.width_at.Goals as goal

pub sheet_width-requires : goal.sheet_width-requires
sheet_width-requires c =
    let f = c.requires.fit in
    (high c.args.t f _ _ c.place-xs.ensures.0, (fit_lower c.args.t f).some)

pub returns : goal.returns
returns c =
    let a = c.args in
    let t = a.t in
    let p = c.place-xs.ensures in
    (c.sheet_width.ensures (sheet (table_of t) a.allowance) t.parent t.kind t.depth t.rank p.0, p.1)
