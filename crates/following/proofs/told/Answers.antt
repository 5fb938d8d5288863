use Rattle.following_turn.specs.Machine.{outcome_of}
use Rattle.following.proofs.told.Goals as goal

pub returns-in-Going : goal.returns-in-Going
unfolding outcome_of
returns-in-Going c = rw c.in-Going.is

pub returns-in-Spent : goal.returns-in-Spent
unfolding outcome_of
returns-in-Spent c = rw c.in-Spent.is

pub returns-in-Wrong : goal.returns-in-Wrong
unfolding outcome_of
returns-in-Wrong c = rw c.in-Wrong.is

pub returns-in-Full : goal.returns-in-Full
unfolding outcome_of
returns-in-Full c = rw c.in-Full.is
