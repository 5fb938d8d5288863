use mathlib.Core.Path.{◌∙◌}
use Rattle.season.specs.Report.{remainder}
use Rattle.season.proofs.Laws.Pool.{given_or_none}
use Rattle.season.proofs.remainder.Goals as goal

pub returns : goal.returns
unfolding remainder
returns c = c.unwrap_or.ensures ∙ given_or_none _ _ _ c.checked_rem.ensures
