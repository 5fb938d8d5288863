use mathlib.Core.Path.{sym}
use native.Mathlib.Omega.{arith}
use Rattle.svg_strokes.specs.Strokes.{stroke_text}
use Rattle.listing.proofs.Laws.Put.{then}
use Rattle.svg_strokes.proofs.Laws.Strokes.{stroke_as}
use Rattle.svg_strokes.proofs.put_stroke.Goals as goal

pub returns-in-Move : goal.returns-in-Move
unfolding stroke_text
returns-in-Move c = (stroke_as _ _ (sym c.in-Move.is) (then c.put_text-a.ensures c.put_point.ensures.0), omega (arith, c.put_text-a.ensures.place, c.put_point.ensures.1))

pub returns-in-Line : goal.returns-in-Line
unfolding stroke_text
returns-in-Line c = (stroke_as _ _ (sym c.in-Line.is) (then c.put_text-b.ensures c.put_point-in-Line.ensures.0), omega (arith, c.put_text-b.ensures.place, c.put_point-in-Line.ensures.1))

pub returns-in-Lift : goal.returns-in-Lift
unfolding stroke_text
returns-in-Lift c = (stroke_as _ _ (sym c.in-Lift.is) c.put_text.ensures, omega (arith, c.put_text.ensures.place))
