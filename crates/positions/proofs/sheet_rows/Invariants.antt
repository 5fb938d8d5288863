use Prim.Native.Nat.{◌+◌, ◌≤◌}
use lib.ListN.{get_or}
use Rattle.positions.proofs.Laws.Measured.{Greatest}
use Rattle.positions.proofs.sheet_rows.Given as goal

abbrev pub invariant-loop-c : goal.invariant-loop-c
invariant-loop-c l = Greatest (λ a. get_or l.tops a 0 + get_or l.depths a 0) l.c l.last × (l.last ≤ 65790)
