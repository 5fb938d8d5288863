use Rattle.following_turn.proofs.kind_of.Goals as goal

pub returns : goal.returns
returns c = rw c.from.ensures
