use Rattle.strips.proofs.Laws.Sheet.{Drawing}
use lib.ListN.{length}
use Rattle.strips.proofs.draw.Given as goal

abbrev pub invariant-loop-c : goal.invariant-loop-c
invariant-loop-c l = Drawing l.t l.positions l.left l.from l.at (length l.fn.bytes) l.bytes l.c
