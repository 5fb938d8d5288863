use Rattle.capi.proofs.kuzpalen_strip.Goals as goal

pub returns : goal.returns
returns c = record { refused = c.strip.result; strips = c.strip.ensures; answers = c.into.ensures }
