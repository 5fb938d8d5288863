use mir.ValLaws.{to_z-of_z}
use mir.Syntax.{w32}
use mathlib.Core.Path.{◌∙◌}
use Rattle.drawing.proofs.Laws.Drawn.{bias_small, apart_is}
use native.Mathlib.Omega.{arith}
use Rattle.drawing.proofs.apart.Goals as goal

pub raise_at-requires : goal.raise_at-requires
raise_at-requires c = (c.requires.1, omega arith, c.requires.0 _)

pub raise_at-requires-2 : goal.raise_at-requires-2
raise_at-requires-2 c = (c.requires.2, omega arith, c.requires.0 _)

pub difference-requires : goal.difference-requires
difference-requires c = (omega (arith, bias_small _ _ (c.requires.0 _) c.raise_at.ensures), omega (arith, bias_small _ _ (c.requires.0 _) c.raise_at-2.ensures))

pub returns : goal.returns
returns c = to_z-of_z w32 c.difference.result (record { sfits = c.difference.type_inv }) ∙ apart_is _ _ _ _ _ (c.requires.0 _) (c.requires.0 _) c.raise_at.ensures c.raise_at-2.ensures c.difference.ensures
