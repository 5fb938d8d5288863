use Prim.Native.Nat.{◌+◌}
use lib.ListN.{get_or}
use Rattle.positions.proofs.Laws.Measured.{Smallest, Greatest}
use Rattle.positions.proofs.sheet_width.Given as goal

abbrev pub invariant-loop-c : goal.invariant-loop-c
invariant-loop-c l = Smallest (λ a. get_or l.xs a 0) l.c l.least × Greatest (λ a. get_or l.xs a 0 + get_or l.widths a 0) l.c l.most
