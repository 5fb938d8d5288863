use native.Mathlib.Omega.{arith}
use Rattle.svg_labels.specs.Labels.{labels_head}
use Rattle.listing.proofs.Laws.Put.{then}
use Rattle.svg_labels.proofs.put_labels_head.Goals as goal

pub returns : goal.returns
unfolding labels_head
returns c = (then c.put_text-a.ensures (then c.put_millimetres-b.ensures.0 c.put_text.ensures), omega (arith, c.put_text-a.ensures.place, c.put_millimetres-b.ensures.1, c.put_text.ensures.place))
