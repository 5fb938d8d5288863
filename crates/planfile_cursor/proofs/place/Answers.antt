use native.Mathlib.Omega.{arith}
use Rattle.planfile_cursor.proofs.place.Goals as goal

pub overflow_mul-result : goal.overflow_mul-result
overflow_mul-result c = rw c.record_size.ensures (omega (arith, c.requires))

pub overflow_add-result : goal.overflow_add-result
overflow_add-result c = rw c.record_size.ensures (omega (arith, c.requires))

pub returns : goal.returns
returns c = rw c.record_size.ensures
