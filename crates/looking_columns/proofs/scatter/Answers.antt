use Rattle.looking_columns.proofs.Scattering.{scattering_turns, scattering_ends}
use Rattle.looking_columns.proofs.scatter.Goals as goal

pub loop-c-preserved : goal.loop-c-preserved
loop-c-preserved c = scattering_turns c.loop-c.invariant c.loop-c-test.true

pub returns : goal.returns
returns c = scattering_ends c.loop-c.invariant c.loop-c-test.false
