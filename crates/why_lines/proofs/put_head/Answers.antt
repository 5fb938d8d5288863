use native.Mathlib.Omega.{arith}
use Rattle.listing.proofs.Laws.Put.{then}
use Rattle.why_lines.proofs.Laws.Printed.{head_line-is, named}
use Rattle.why_lines.proofs.put_head.Goals as goal

pub returns : goal.returns
returns c = (named _ (then (then (then (then (then c.put_text-a.ensures c.put_field-b.ensures.0) c.put_field-c.ensures.0) c.put_field-d.ensures.0) c.put_field-e.ensures.0) c.put_byte.ensures) (head_line-is _ _ _ _), omega (arith, c.put_text-a.ensures.place, c.put_field-b.ensures.1, c.put_field-c.ensures.1, c.put_field-d.ensures.1, c.put_field-e.ensures.1, c.put_byte.ensures.place))
