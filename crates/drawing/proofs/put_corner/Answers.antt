use lib.ListN.{length-set}
use native.Mathlib.Omega.{arith}
use Rattle.drawing.proofs.put_corner.Goals as goal

pub bounds-places-c-2 : goal.bounds-places-c-2
bounds-places-c-2 c = simp length-set (omega arith)
