use Rattle.drawing.proofs.Laws.Numbers.{capped_low, capped_high}
use mathlib.Core.Path.{sym}
use native.Mathlib.Omega.{arith}
use Rattle.drawing.proofs.grown.Goals as goal

pub returns-then-next-gt-FARTHEST : goal.returns-then-next-gt-FARTHEST
returns-then-next-gt-FARTHEST c = (sym (capped_high _ c.if-next-gt-FARTHEST.true), omega arith)

pub returns : goal.returns
returns c = (sym (capped_low _ c.if-next-gt-FARTHEST.false), omega arith)
