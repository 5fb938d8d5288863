use native.Mathlib.Omega.{arith}
use Rattle.mark_spec.proofs.Laws.Marked.{full_by, wide_by}
use Rattle.mark.proofs.by_width.Goals as goal

pub returns-then-sheet-least : goal.returns-then-sheet-least
returns-then-sheet-least c = let a = c.args in full_by a.least a.sheet.width a.sheet.rows (omega (arith, c.if-sheet-least.true))

pub returns : goal.returns
returns c = let a = c.args in wide_by a.least a.sheet.width a.sheet.rows (omega (arith, c.if-sheet-least.false))
