use Rattle.capi.proofs.kuzpalen_layout.Goals as goal

pub returns : goal.returns
returns c = record { laid = c.layout.result; lays = c.layout.ensures; answers = c.into.ensures }
