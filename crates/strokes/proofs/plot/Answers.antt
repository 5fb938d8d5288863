use mir.Syntax.{w32}
use mir.ValLaws.{to_z-of_z}
use Rattle.pen.specs.Paper.{plotted}
use Rattle.strokes.proofs.plot.Goals as goal

pub returns : goal.returns
unfolding plotted
returns c = rw (to_z-of_z w32 c.args.z c.ranges.z)
