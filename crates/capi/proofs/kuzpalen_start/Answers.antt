use Rattle.capi.proofs.kuzpalen_start.Goals as goal

pub returns : goal.returns
returns c = record { started = c.start.result; starts = c.start.ensures; answers = c.into.ensures }
