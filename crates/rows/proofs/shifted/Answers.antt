use Rattle.rows.proofs.shifted.Goals as goal

pub returns-then-there : goal.returns-then-there
returns-then-there c = rw c.if-there.true c.max.ensures
