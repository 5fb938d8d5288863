use native.Mathlib.Omega.{arith}
use Rattle.compose_fields.proofs.Laws.Parts.{parted-end, parted-here}
use Rattle.compose_fields.proofs.parted.Goals as goal

pub returns-then-line-at : goal.returns-then-line-at
returns-then-line-at c = parted-end _ _ c.if-line-at.true

pub returns : goal.returns
returns c = parted-here c.args.line.now c.args.at (omega arith)
