use Rattle.capi.proofs.kuzpalen_join.Goals as goal

pub returns : goal.returns
returns c = record { joined = c.join.result; joins = c.join.ensures; answers = c.into.ensures }
