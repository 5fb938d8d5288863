use mathlib.Core.Path.{sym, ◌∙◌}
use Rattle.fitting.proofs.Laws.Fitted.{lower-half, upper_half}
use Rattle.fitting.proofs.half_from.Goals as goal

pub returns-then-fits : goal.returns-then-fits
returns-then-fits c =
    let a = c.args in
    let e = c.fits.ensures in
    (lower-half _ _ _ (sym e.0 ∙ c.if-fits.true), e.1)

pub returns : goal.returns
returns c =
    let a = c.args in
    let e = c.fits.ensures in
    (upper_half _ _ _ (sym e.0 ∙ c.if-fits.false), e.1)
