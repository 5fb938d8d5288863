use mathlib.Core.Path.{◌∙◌}
use Rattle.grafting.proofs.Laws.Grafted.{accepts, column-picked}
use Rattle.grafting.proofs.accept.Goals as goal

pub returns : goal.returns
returns c = accepts c.args.first.now c.args.second.now c.args.columns _ _ (c.join_values.ensures ∙ column-picked _ _ _ _) (c.join_values-2.ensures ∙ column-picked _ _ _ _)
