use Rattle.std.proofs.Common.{sym, ◌∙◌, arith}
use Rattle.whole.proofs.Laws.Range.{says_within}
use Rattle.whole.proofs.Laws.Says.{holds}
use Rattle.outcomes.proofs.print_signed.Goals as goal

pub raise-up-requires : goal.raise-up-requires
raise-up-requires g c = (omega arith, holds (says_within 1000000 _) (sym c.within.ensures ∙ c.if-not-within.false))
