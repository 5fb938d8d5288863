use native.Mathlib.Omega.{arith}
use Rattle.listing.proofs.Laws.Put.{then}
use Rattle.why_lines.proofs.Laws.Printed.{last_line-is, named}
use Rattle.why_lines.proofs.put_last.Goals as goal

pub returns : goal.returns
returns c = (named _ (then (then (then (then c.put_decimal-a.ensures.0 c.put_text-b.ensures) c.put_field-c.ensures.0) c.put_apart-d.ensures.0) c.put_byte.ensures) (last_line-is _ _ _), omega (arith, c.put_decimal-a.ensures.1, c.put_text-b.ensures.place, c.put_field-c.ensures.1, c.put_apart-d.ensures.1, c.put_byte.ensures.place))
