use native.Mathlib.Omega.{arith}
use Rattle.season.proofs.Laws.Report.{area_most, report_single}
use Rattle.season.proofs.single.Goals as goal

pub overflow_mul-result : goal.overflow_mul-result
overflow_mul-result c = rw (c.from.ensures, c.from-2.ensures) (omega (arith, area_most c.args.width c.args.rows c.requires.0 c.requires.1))

pub returns : goal.returns
returns c = rw (c.from.ensures, c.from-2.ensures) (report_single c.args.cells c.args.width c.args.rows)
