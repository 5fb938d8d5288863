use native.Mathlib.Omega.{arith}
use Rattle.svg_labels.specs.Labels.{label_at}
use Rattle.listing.proofs.Laws.Put.{then}
use Rattle.svg_labels.proofs.put_label_at.Goals as goal

pub put_text-requires : goal.put_text-requires
put_text-requires c = omega (arith, c.requires.0, c.requires.1, c.put_text-a.ensures.place, c.put_millimetres-b.ensures.1, c.put_text-c.ensures.place, c.put_millimetres-d.ensures.1, c.put_text-e.ensures.place, c.put_letters-f.ensures.1)

pub returns : goal.returns
unfolding label_at
returns c = (then c.put_text-a.ensures (then c.put_millimetres-b.ensures.0 (then c.put_text-c.ensures (then c.put_millimetres-d.ensures.0 (then c.put_text-e.ensures (then c.put_letters-f.ensures.0 c.put_text.ensures))))), omega (arith, c.requires.0, c.put_text-a.ensures.place, c.put_millimetres-b.ensures.1, c.put_text-c.ensures.place, c.put_millimetres-d.ensures.1, c.put_text-e.ensures.place, c.put_letters-f.ensures.1, c.put_text.ensures.place))
