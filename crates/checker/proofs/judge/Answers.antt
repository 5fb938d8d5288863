use Rattle.plan.specs.Columns.{table_of}
use Rattle.plan.proofs.Laws.Tables.{length-is}
use Rattle.rules.specs.Placement.{placed}
use Rattle.checker.proofs.Judging.{broken-answer, kept-answer, bounds, rows_fit}
use native.Mathlib.Omega.{arith}
use Rattle.checker.proofs.judge.Goals as goal

pub find-requires : goal.find-requires
find-requires c = (record { table = table_of c.args.t; placement = placed c.args.positions.now; fit = c.requires.0; count = length-is c.args.t; looked = c.look.ensures.0 }, c.look.ensures.1, omega (arith, c.requires.2))

pub returns-in-Err : goal.returns-in-Err
returns-in-Err c = broken-answer c.args.t c.requires.0 c.args.positions.now c.args.allowance _ c.look.ensures.0 _ _ c.find.ensures c.in-Err.is

pub width_of-width-requires : goal.width_of-width-requires
width_of-width-requires c = bounds c.args.t c.requires.0 c.args.positions.now c.args.allowance _ c.look.ensures.0

pub overflow_sub-result : goal.overflow_sub-result
overflow_sub-result c = let (l, h) = rows_fit c.args.t c.requires.0 c.args.positions.now c.args.allowance _ c.look.ensures.0 c.look.ensures.1 _ c.see-root.ensures in omega arith

pub overflow_add-result : goal.overflow_add-result
overflow_add-result c = let (l, h) = rows_fit c.args.t c.requires.0 c.args.positions.now c.args.allowance _ c.look.ensures.0 c.look.ensures.1 _ c.see-root.ensures in omega arith

pub returns : goal.returns
returns c = kept-answer c.args.t c.requires.0 c.args.positions.now c.args.allowance _ c.look.ensures.0 _ tt _ _ c.find.ensures c.in_default.is c.width_of-width.ensures c.see-root.ensures
