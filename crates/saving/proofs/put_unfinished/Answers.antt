use Rattle.std.proofs.Common.{arith}
use Rattle.saving.proofs.Laws.Names.{unfinished-put}
use Rattle.saving.proofs.put_unfinished.Goals as goal

pub returns : goal.returns
returns c = (unfinished-put _ c.put_text-a.ensures c.put_text-b.ensures c.put_decimal.ensures.0, omega (arith, c.put_decimal.ensures.1))
