use mathlib.Core.Path.{◌∙◌}
use Rattle.strokes.proofs.Plotting.{plotted-back}
use Rattle.strokes.proofs.plot_from.Goals as goal

pub returns : goal.returns
returns c = c.plot.ensures ∙ plotted-back _ _ _ _ _ c.requires.0 c.requires.1 c.difference.ensures
