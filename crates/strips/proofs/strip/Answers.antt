use Rattle.plan.proofs.Laws.Answered.{passes}
use Rattle.strips.proofs.Laws.Stripped.{accepted, refused_leaves, drawn_leaves}
use Rattle.strips.proofs.strip.Goals as goal

pub returns-in_err-refuse : goal.returns-in_err-refuse
returns-in_err-refuse c = refused_leaves _ _ _ _ _ _ _ c.in_err-refuse.ensures c.from_residual.ensures.1

pub draw-requires : goal.draw-requires
draw-requires c = accepted _ _ (passes _ _ c.in_ok-refuse.ensures)

pub returns : goal.returns
returns c = drawn_leaves _ _ _ _ _ _ _ c.in_ok-refuse.ensures c.draw.ensures
