use Rattle.std.proofs.Common.{sym, ◌∙◌, arith}
use Rattle.whole.proofs.Laws.Range.{says_within}
use Rattle.whole.proofs.Laws.Says.{holds}
use Rattle.outcomes.proofs.up.Goals as goal

pub raise-requires : goal.raise-requires
raise-requires c = (omega arith, holds (says_within 1000000 _) (sym c.within.ensures ∙ c.if-within.true))
