use Rattle.looking.proofs.Laws.Found.{kept-found}
use Rattle.whole.proofs.Laws.Says.{holds}
use Rattle.sweeping.proofs.find.Goals as goal

pub returns-then-all_kept : goal.returns-then-all_kept
returns-then-all_kept c = kept-found (holds c.all_kept.ensures c.if-all_kept.true)
