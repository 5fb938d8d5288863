use Rattle.capi.proofs.kuzpalen_frame.Goals as goal

pub returns : goal.returns
returns c = record { fitted = c.frame.result; frames = c.frame.ensures; answers = c.into.ensures }
