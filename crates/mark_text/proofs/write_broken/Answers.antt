use Rattle.mark_text.proofs.Laws.Text.{broken-put}
use native.Mathlib.Omega.{arith}
use Rattle.mark_text.proofs.write_broken.Goals as goal

pub returns : goal.returns
returns c = (broken-put _ _ c.put_text-i.ensures c.put_text-j.ensures c.put_triple-k.ensures.0 c.put_byte.ensures, omega (arith, c.put_text-i.ensures.place, c.put_text-j.ensures.place, c.put_triple-k.ensures.1, c.put_byte.ensures.place))
