use native.Mathlib.Omega.{arith}
use Rattle.svg_strokes.specs.Strokes.{head_text}
use Rattle.listing.proofs.Laws.Put.{then}
use Rattle.svg_strokes.proofs.put_head.Goals as goal

pub returns : goal.returns
unfolding head_text
returns c = (then c.put_text-a.ensures (then c.put_millimetres-b.ensures.0 (then c.put_text-c.ensures (then c.put_millimetres-d.ensures.0 (then c.put_text-e.ensures (then c.put_point-f.ensures.0 c.put_text.ensures))))), omega (arith, c.put_text-a.ensures.place, c.put_millimetres-b.ensures.1, c.put_text-c.ensures.place, c.put_millimetres-d.ensures.1, c.put_text-e.ensures.place, c.put_point-f.ensures.1, c.put_text.ensures.place))
