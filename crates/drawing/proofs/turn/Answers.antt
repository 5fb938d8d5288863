use mathlib.Core.Path.{ap}
use Rattle.std.specs.Prelude.{Ok}
use Rattle.drawing.proofs.Laws.Lines.{turned-none, turned-fault}
use Rattle.drawing.proofs.turn.Goals as goal

pub returns-in_err-corner : goal.returns-in_err-corner
returns-in_err-corner c = turned-fault _ _ _ _ _ c.requires.1 _ c.in_err-corner.ensures _ c.from_residual.ensures.1

pub returns-in-None : goal.returns-in-None
returns-in-None c = turned-none _ _ _ _ _ c.requires.1 _ c.in_ok-corner.ensures (ap Ok c.in-None.is) _
