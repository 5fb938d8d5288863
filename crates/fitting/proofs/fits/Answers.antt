use Rattle.plan.specs.Columns.{table_of}
use Rattle.fitting.proofs.Laws.Fitted.{measured}
use Rattle.fitting.proofs.fits.Goals as goal

pub returns : goal.returns
returns c =
    let a = c.args in
    let e = c.width_at.ensures in
    (measured (table_of a.t) a.squares a.allowance _ e.0, e.1)
