use native.Mathlib.Omega.{arith}
use Rattle.printing.proofs.Laws.Taken.{taken, put_short, refusal-done}
use Rattle.printing.proofs.write_listing.Goals as goal

pub write_sheet-requires : goal.write_sheet-requires
write_sheet-requires c = (taken _ _ c.in-Ok.ensures, c.requires)

pub returns-in-Err : goal.returns-in-Err
returns-in-Err c =
    let l = c.refused_line-line.ensures in
    let k = put_short _ c.put_line.ensures l.1 in
    (refusal-done _ _ c.in-Err.ensures _ l.0 c.put_line.ensures, omega (arith, k))
