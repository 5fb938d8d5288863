use native.Mathlib.Omega.{arith}
use Rattle.corners.proofs.Laws.Corners.{bias_low}
use Rattle.corners.proofs.y_of.Goals as goal

pub returns : goal.returns
returns c = (c.raise_at.ensures, omega (arith, c.raise_at.ensures, bias_low _ c.requires.y))
