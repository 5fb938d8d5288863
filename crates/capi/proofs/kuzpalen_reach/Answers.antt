use Rattle.capi.proofs.kuzpalen_reach.Goals as goal

pub returns : goal.returns
returns c = record { reached = c.reach.result; reaches = c.reach.ensures; answers = c.into.ensures }
