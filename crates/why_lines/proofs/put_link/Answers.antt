use native.Mathlib.Omega.{arith}
use Rattle.listing.proofs.Laws.Put.{then}
use Rattle.why_lines.proofs.Laws.Printed.{link_line-is, named}
use Rattle.why_lines.proofs.put_link.Goals as goal

pub returns : goal.returns
returns c = (named _ (then (then (then (then (then (then c.put_decimal-a.ensures.0 c.put_field-b.ensures.0) c.put_text-c.ensures) c.put_decimal-d.ensures.0) c.put_apart-e.ensures.0) c.put_apart-f.ensures.0) c.put_byte.ensures) (link_line-is _ _), omega (arith, c.put_decimal-a.ensures.1, c.put_field-b.ensures.1, c.put_text-c.ensures.place, c.put_decimal-d.ensures.1, c.put_apart-e.ensures.1, c.put_apart-f.ensures.1, c.put_byte.ensures.place))
