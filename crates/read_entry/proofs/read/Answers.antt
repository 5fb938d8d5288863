use Rattle.std.proofs.Common.{arith}
use Rattle.read_entry.proofs.Laws.Read.{refused_reads, count_fits, plan_reads}
use Rattle.read_entry.proofs.read.Goals as goal

pub returns-in_err-plan : goal.returns-in_err-plan
returns-in_err-plan c = refused_reads _ _ _ _ (c.in_err-plan.ensures) c.from_residual.ensures.1

pub fill-requires : goal.fill-requires
fill-requires c = omega (arith, count_fits c.args.file.now c.args.table.now _ c.in_ok-plan.ensures)

pub overflow_cast-result : goal.overflow_cast-result
overflow_cast-result c = record { fits = omega (arith, count_fits c.args.file.now c.args.table.now _ c.in_ok-plan.ensures) }

pub returns : goal.returns
returns c = plan_reads c.args.file.now c.args.table.now _ c.in_ok-plan.ensures _ c.fill.ensures
