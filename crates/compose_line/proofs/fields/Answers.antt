use Rattle.outline_spec.proofs.Laws.Told.{border_small}
use mathlib.Core.Path.{◌∙◌}
use native.Mathlib.Omega.{arith}
use Rattle.compose_line.proofs.Laws.Cells.{tells_err, fields_1, fields_2, fields_3, fields_4, fields_5, fields_0, usual_is, usual_within, nearest_small}
use Rattle.compose_line.proofs.fields.Goals as goal

pub returns-in_err-width : goal.returns-in_err-width
returns-in_err-width c = tells_err c.args.line.now _ _ _ (fields_1 c.args.seen.now c.args.level c.args.kind c.args.line.now c.args.at _ c.in_err-width.ensures) c.from_residual.ensures.1

pub returns-in_err-depth : goal.returns-in_err-depth
returns-in_err-depth c = tells_err c.args.line.now _ _ _ (fields_2 c.args.seen.now c.args.level c.args.kind c.args.line.now c.args.at c.in_ok-width.width c.in_ok-width.ensures _ c.in_err-depth.ensures) c.from_residual-in_err-depth.ensures.1

pub returns-in_err-rank : goal.returns-in_err-rank
returns-in_err-rank c = tells_err c.args.line.now _ _ _ (fields_3 c.args.seen.now c.args.level c.args.kind c.args.line.now c.args.at c.in_ok-width.width c.in_ok-width.ensures c.in_ok-depth.depth c.in_ok-depth.ensures _ c.in_err-rank.ensures) c.from_residual-in_err-rank.ensures.1

pub returns-in_err-under : goal.returns-in_err-under
returns-in_err-under c = tells_err c.args.line.now _ _ _ (fields_4 c.args.seen.now c.args.level c.args.kind c.args.line.now c.args.at c.in_ok-width.width c.in_ok-width.ensures c.in_ok-depth.depth c.in_ok-depth.ensures c.in_ok-rank.rank c.in_ok-rank.ensures _ c.in_err-under.ensures) c.from_residual-in_err-under.ensures.1

pub returns-in_err-label : goal.returns-in_err-label
returns-in_err-label c = tells_err c.args.line.now _ _ _ (fields_5 c.args.seen.now c.args.level c.args.kind c.args.line.now c.args.at c.in_ok-width.width c.in_ok-width.ensures c.in_ok-depth.depth c.in_ok-depth.ensures c.in_ok-rank.rank c.in_ok-rank.ensures c.in_ok-under.under c.in_ok-under.ensures _ c.in_err-label.ensures) c.from_residual-in_err-label.ensures.1

pub overflow_cast-told : goal.overflow_cast-told
overflow_cast-told c =
    omega (arith, c.unwrap_or.ensures, usual_within c.in_ok-under.under.value c.nearest-above.result 255 65535 (rw c.nearest-above.ensures (nearest_small c.args.level c.args.seen.now c.requires.0)) (omega arith) c.in_ok-under.ensures.small)

pub overflow_cast-told-2 : goal.overflow_cast-told-2
overflow_cast-told-2 c =
    omega (arith, c.unwrap_or-2.ensures, usual_within c.in_ok-width.width.value c.natural-usual.result 65535 65535 (let n = border_small c.args.kind in omega (arith, c.natural-usual.ensures, n, c.in_ok-label.ensures.inside, c.requires.1)) (omega arith) c.in_ok-width.ensures.small)

pub returns : goal.returns
returns c =
    fields_0 c.args.seen.now c.args.level c.args.kind c.args.line.now c.args.at c.in_ok-width.width c.in_ok-width.ensures c.in_ok-depth.depth c.in_ok-depth.ensures c.in_ok-rank.rank c.in_ok-rank.ensures c.in_ok-under.under c.in_ok-under.ensures c.in_ok-label.label c.in_ok-label.ensures c.requires.3 c.requires.1 _ _ _ _ _
    (c.unwrap_or.ensures ∙ rw c.nearest-above.ensures (usual_is c.in_ok-under.under _)) (c.unwrap_or-2.ensures ∙ rw c.natural-usual.ensures (usual_is c.in_ok-width.width _))
    (c.unwrap_or-3.ensures ∙ usual_is c.in_ok-depth.depth _) (c.unwrap_or-4.ensures ∙ usual_is c.in_ok-rank.rank _) c.placed.ensures
