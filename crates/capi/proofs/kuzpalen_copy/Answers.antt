use Rattle.capi.proofs.kuzpalen_copy.Goals as goal

pub returns : goal.returns
returns c = record { copied = c.copy.result; copies = c.copy.ensures; answers = c.into.ensures }
