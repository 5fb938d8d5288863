use native.Mathlib.Omega.{arith}
use Rattle.plan.specs.Columns.{table_of}
use Rattle.contours.specs.Sheet.{sheet}
use Rattle.layout.proofs.Laws.Laid.{size, fit_lower, fit_flat, high, drawn}
use Rattle.layout.proofs.draw_over_zeros.Goals as goal

pub survey-requires : goal.survey-requires
survey-requires c = record { lower = fit_lower c.args.t c.requires.0.fit; flat = fit_flat c.args.t c.requires.0.fit }

pub place-xs-requires : goal.place-xs-requires
place-xs-requires c =
    record { fit = c.requires.0.fit; rows = (c.survey.ensures _ _ _).2; scratch = c.requires.1 }

pub write_positions-requires : goal.write_positions-requires
write_positions-requires c =
    let f = c.requires.0.fit in
    (high c.args.t f _ _ c.place-xs.ensures.0, omega (arith, c.requires.0.room, size c.args.t f))

pub sheet_width-requires : goal.sheet_width-requires
sheet_width-requires c =
    let f = c.requires.0.fit in
    (high c.args.t f _ _ c.place-xs.ensures.0, (fit_lower c.args.t f).some)

pub sheet_rows-requires : goal.sheet_rows-requires
sheet_rows-requires c =
    let l = fit_lower c.args.t c.requires.0.fit in
    (l.some, l.few)

pub returns : goal.returns
returns c =
    let t = c.args.t in
    let f = c.requires.0.fit in
    let tops = (c.survey.ensures _ _ _).2 in
    let p = c.place-xs.ensures in
    drawn t f _ tops c.args.allowance _ p.0 _ p.1 c.args.positions.now _ c.write_positions.ensures _ _
    (c.sheet_width.ensures (sheet (table_of t) c.args.allowance) t.parent t.kind t.depth t.rank p.0)
    (c.sheet_rows.ensures t.parent t.kind t.width t.rank f.sound tops)
