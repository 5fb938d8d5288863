use native.Mathlib.Omega.{arith}
use lib.ListN.{length-set}
use Rattle.rows.proofs.put_row.Goals as goal

pub bounds-rows-b-2 : goal.bounds-rows-b-2
bounds-rows-b-2 c = simp length-set (omega arith)

pub bounds-rows-b-3 : goal.bounds-rows-b-3
bounds-rows-b-3 c = simp length-set (omega arith)

pub bounds-rows-b-4 : goal.bounds-rows-b-4
bounds-rows-b-4 c = simp length-set (omega arith)

pub shape_of-rows : goal.shape_of-rows
shape_of-rows c = simp length-set
