use Rattle.capi.proofs.kuzpalen_list.Goals as goal

pub returns : goal.returns
returns c = record { listed = c.list.result; lists = c.list.ensures; answers = c.into.ensures }
