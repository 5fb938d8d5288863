use native.Mathlib.Omega.{arith}
use Rattle.printing.proofs.Laws.Printing.{label_short}
use Rattle.printing.proofs.Laws.Taken.{taken_few}
use Rattle.transcript.proofs.line_at.Goals as goal

pub overflow_cast-c : goal.overflow_cast-c
overflow_cast-c c = omega (arith, c.requires.0, taken_few _ _ c.requires.1)

pub step_line-requires : goal.step_line-requires
step_line-requires c = rw c.label_at.ensures (label_short _ _)

pub returns : goal.returns
returns c = rw (← c.label_at.ensures) c.step_line.ensures
