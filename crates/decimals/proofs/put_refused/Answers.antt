use Rattle.std.proofs.Common.{arith}
use Rattle.decimals.proofs.Laws.Refused.{refused-put}
use Rattle.decimals.proofs.put_refused.Goals as goal

pub returns : goal.returns
returns c = (refused-put _ _ c.put_text-a.ensures c.put_byte-b.ensures c.put_decimal-c.ensures.0 c.put_byte-d.ensures c.put_decimal-e.ensures.0 c.put_byte.ensures, omega (arith, c.put_text-a.ensures.place, c.put_byte-b.ensures.place, c.put_decimal-c.ensures.1, c.put_byte-d.ensures.place, c.put_decimal-e.ensures.1, c.put_byte.ensures.place))
