use native.Mathlib.Omega.{arith}
use lib.ListN.{length-set}
use Rattle.joining_cells.proofs.put_marks.Goals as goal

pub bounds-marks-b-2 : goal.bounds-marks-b-2
bounds-marks-b-2 c = simp length-set (omega arith)

pub bounds-marks-b-3 : goal.bounds-marks-b-3
bounds-marks-b-3 c = simp length-set (omega arith)

pub bounds-marks-b-4 : goal.bounds-marks-b-4
bounds-marks-b-4 c = simp length-set (omega arith)

pub shape_of-marks : goal.shape_of-marks
shape_of-marks c = simp length-set
