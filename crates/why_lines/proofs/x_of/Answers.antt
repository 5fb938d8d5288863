use native.Mathlib.Omega.{arith}
use Rattle.why_lines.proofs.x_of.Goals as goal

pub offset_bounds-xs-chain : goal.offset_bounds-xs-chain
offset_bounds-xs-chain c = omega (arith, c.requires.0.each c.args.j c.requires.1)

pub bounds-xs-chain : goal.bounds-xs-chain
bounds-xs-chain c = omega (arith, c.requires.0.each c.args.j c.requires.1)
