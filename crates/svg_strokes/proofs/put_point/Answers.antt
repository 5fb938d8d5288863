use native.Mathlib.Omega.{arith}
use Rattle.svg_strokes.specs.Strokes.{point_text}
use Rattle.listing.proofs.Laws.Put.{then}
use Rattle.svg_strokes.proofs.put_point.Goals as goal

pub returns : goal.returns
unfolding point_text
returns c = (then c.put_millimetres-a.ensures.0 (then c.put_byte-b.ensures c.put_millimetres.ensures.0), omega (arith, c.put_millimetres-a.ensures.1, c.put_byte-b.ensures.place, c.put_millimetres.ensures.1))
