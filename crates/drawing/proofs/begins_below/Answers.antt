use Rattle.drawing_spec.specs.Words.{begins_below}
use Rattle.drawing.proofs.Laws.Numbers.{below-empty}
use mathlib.Core.Path.{refl}
use Rattle.drawing.proofs.begins_below.Goals as goal

pub returns-then-word-eq0 : goal.returns-then-word-eq0
returns-then-word-eq0 c = below-empty _ c.if-word-eq0.true

pub returns : goal.returns
unfolding begins_below
returns c = refl
