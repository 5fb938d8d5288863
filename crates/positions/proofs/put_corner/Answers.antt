use lib.ListN.{length-set}
use native.Mathlib.Omega.{arith}
use Rattle.positions.proofs.put_corner.Goals as goal

pub bounds-positions-c-2 : goal.bounds-positions-c-2
bounds-positions-c-2 c = simp length-set (omega arith)
