use mathlib.Core.Path.{refl}
use Rattle.joining_separation.proofs.join_side.Goals as goal

pub returns-then-beyond : goal.returns-then-beyond
returns-then-beyond c = rw c.if-beyond.true (c.join_beyond.ensures, refl)

pub returns : goal.returns
returns c = rw c.if-beyond.false (cc, refl)
