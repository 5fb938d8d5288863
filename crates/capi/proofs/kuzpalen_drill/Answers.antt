use Rattle.capi.proofs.kuzpalen_drill.Goals as goal

pub returns : goal.returns
returns c = record { drilled = c.drill.result; drills = c.drill.ensures; answers = c.into.ensures }
