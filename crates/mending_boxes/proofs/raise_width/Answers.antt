use mathlib.Core.Path.{sym, ◌∙◌}
use Rattle.mending_boxes.proofs.Laws.Code.{least-byte, width-put, width-kept}
use Rattle.mending_boxes.proofs.raise_width.Goals as goal

pub put_width-requires : goal.put_width-requires
put_width-requires c = (least-byte c.args.r (sym c.cramped.ensures ∙ c.if-cramped.true) c.least_width.ensures, c.requires)

pub returns-then-cramped : goal.returns-then-cramped
returns-then-cramped c = width-put _ _ _ _ (sym c.cramped.ensures ∙ c.if-cramped.true) c.least_width.ensures c.put_width.ensures

pub returns-else-cramped : goal.returns-else-cramped
returns-else-cramped c = width-kept _ _ _ _ (sym c.cramped.ensures ∙ c.if-cramped.false)
