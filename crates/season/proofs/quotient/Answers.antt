use mathlib.Core.Path.{◌∙◌}
use Rattle.season.specs.Report.{quotient}
use Rattle.season.proofs.Laws.Pool.{given_or_none}
use Rattle.season.proofs.quotient.Goals as goal

pub returns : goal.returns
unfolding quotient
returns c = c.unwrap_or.ensures ∙ given_or_none _ _ _ c.checked_div.ensures
