use mathlib.Core.Path.{refl}
use native.Mathlib.Omega.{arith}
use Rattle.join_entry.proofs.Laws.Join.{hang-fits, hang-is, hang-refused}
use Rattle.join_entry.proofs.hang.Goals as goal

pub returns-in_err-joined : goal.returns-in_err-joined
returns-in_err-joined c = hang-refused c.args.first.now c.args.second.now c.args.cell _ _ _ _ c.in_err-joined.ensures c.from_residual.ensures.1 refl

pub fill-requires : goal.fill-requires
fill-requires c = hang-fits _ _ _ _ _ c.in_ok-joined.ensures

pub overflow_cast-result : goal.overflow_cast-result
overflow_cast-result c = omega (arith, hang-fits _ _ _ _ _ c.in_ok-joined.ensures)

pub returns : goal.returns
returns c = hang-is _ _ _ c.args.table.now _ _ c.in_ok-joined.ensures c.fill.ensures
