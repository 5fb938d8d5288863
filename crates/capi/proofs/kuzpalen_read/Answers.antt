use Rattle.capi.proofs.kuzpalen_read.Goals as goal

pub returns : goal.returns
returns c = record { read = c.read.result; reads = c.read.ensures; answers = c.into.ensures }
