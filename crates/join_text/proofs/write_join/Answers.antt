use native.Mathlib.Omega.{arith}
use Rattle.join_text.proofs.Laws.JoinText.{text-written}
use Rattle.join_text.proofs.write_join.Goals as goal

pub returns-in-Ok : goal.returns-in-Ok
returns-in-Ok c = (text-written _ c.in-Ok.is, omega arith)

pub returns-in-Err : goal.returns-in-Err
returns-in-Err c = rw c.in-Err.is c.put_error.ensures
