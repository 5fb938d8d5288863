use Rattle.std.proofs.Common.{ap}
use Rattle.std.specs.Prelude.{not}
use Rattle.places.proofs.Laws.Places.{free, unknown, other, plain}
use Rattle.places.proofs.judged.Goals as goal

pub returns-then-missing : goal.returns-then-missing
returns-then-missing c = free _ _ _ (ap not c.if-not-found.true) c.if-missing.true

pub returns-then-not-found : goal.returns-then-not-found
returns-then-not-found c = unknown _ _ _ (ap not c.if-not-found.true) c.if-missing.false

pub returns-then-mode-ne-REGULAR : goal.returns-then-mode-ne-REGULAR
returns-then-mode-ne-REGULAR c = other _ _ _ (ap not c.if-not-found.false) c.if-mode-ne-REGULAR.true

pub returns : goal.returns
returns c = plain _ _ _ (ap not c.if-not-found.false) c.if-mode-ne-REGULAR.false
