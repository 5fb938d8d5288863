use Rattle.capi.proofs.kuzpalen_mark.Goals as goal

pub returns : goal.returns
returns c = record { marked = c.mark.result; marks = c.mark.ensures; answers = c.into.ensures }
