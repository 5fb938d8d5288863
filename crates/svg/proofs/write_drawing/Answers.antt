use mathlib.Core.Bool.{not}
use mathlib.Core.Path.{ap, refl}
use native.Mathlib.Omega.{arith}
use Rattle.plan.specs.Limits.{most_cells}
use Rattle.planfile_spec.proofs.Laws.Answer.{read_plan, read_refused}
use Rattle.svg_labels.proofs.Laws.Labels.{put_as}
use Rattle.svg.proofs.Laws.Drawing.{drawing-refused, drawing_unfair, drawing-sheet, unfair, is-fair}
use Rattle.svg.proofs.write_drawing.Goals as goal

pub returns-in-Err : goal.returns-in-Err
returns-in-Err c =
    let r = read_refused _ most_cells _ c.in-Err.ensures in
    (put_as _ _ (drawing-refused _ _ c.args.page r.0 r.1) c.put_refused.ensures.0, omega (arith, c.put_refused.ensures.1))

pub returns-then-not-fair : goal.returns-then-not-fair
returns-then-not-fair c =
    let e = read_plan _ most_cells _ c.in-Ok.ensures in
    (put_as _ _ (drawing_unfair _ _ _ e refl (unfair _ _ c.fair.ensures (ap not c.if-not-fair.true))) c.put_refused-then-not-fair.ensures.0, omega (arith, c.put_refused-then-not-fair.ensures.1))

pub write_sheet-requires : goal.write_sheet-requires
write_sheet-requires c = (record { is = read_plan _ most_cells _ c.in-Ok.ensures; passes = refl }, c.requires)

pub returns : goal.returns
returns c =
    let e = read_plan _ most_cells _ c.in-Ok.ensures in
    (put_as _ _ (drawing-sheet _ _ _ e refl (is-fair _ _ c.fair.ensures (ap not c.if-not-fair.false))) c.write_sheet.ensures.0, c.write_sheet.ensures.1)
