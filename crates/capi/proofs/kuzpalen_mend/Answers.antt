use Rattle.capi.proofs.kuzpalen_mend.Goals as goal

pub returns : goal.returns
returns c = record { mended = c.mend.result; mends = c.mend.ensures; answers = c.into.ensures }
