use Rattle.strips.proofs.Laws.Puts.{or_past}
use mathlib.Core.Path.{refl}
use Rattle.strips.specs.Picture.{or_at}
use Rattle.strips.proofs.or_at.Goals as goal

pub returns-then-i-bytes : goal.returns-then-i-bytes
unfolding or_at
returns-then-i-bytes c = refl

pub returns-else-i-bytes : goal.returns-else-i-bytes
returns-else-i-bytes c = or_past _ _ _ c.if-i-bytes.false
