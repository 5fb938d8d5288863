use native.Mathlib.Omega.{arith}
use Rattle.listing.proofs.Laws.Line.{spaced-empty, spaced-label}
use Rattle.listing.proofs.Laws.Put.{put-none, then}
use Rattle.listing.proofs.Line.label.Goals as goal

pub returns-then-label-eq0 : goal.returns-then-label-eq0
returns-then-label-eq0 c = (rw (spaced-empty _ c.if-label-eq0.true) (put-none _ _), omega arith)

pub returns : goal.returns
returns c = (rw (spaced-label _ c.if-label-eq0.false) (then c.byte.ensures c.word.ensures), omega (arith, c.byte.ensures.place, c.word.ensures.place, c.requires.0))
