use mathlib.Core.Path.{◌∙◌, ap}
use Rattle.whole.specs.Bias.{bias}
use Rattle.whole.proofs.Machine.{back}
use Rattle.whole.proofs.raise_at.Goals as goal

pub raise-requires : goal.raise-requires
raise-requires c = rw (back _ c.requires.1 _ c.requires.2) (c.requires.1, c.requires.2)

pub returns : goal.returns
returns c = c.raise.ensures ∙ ap (bias _) (back _ c.requires.1 _ c.requires.2)
