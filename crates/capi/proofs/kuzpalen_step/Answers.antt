use Rattle.capi.proofs.kuzpalen_step.Goals as goal

pub returns : goal.returns
returns c = record { stepped = c.step.result; steps = c.step.ensures; answers = c.into.ensures }
