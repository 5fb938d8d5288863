use Rattle.following_cell.proofs.link.Goals as goal

pub returns : goal.returns
returns c = rw c.from.ensures
