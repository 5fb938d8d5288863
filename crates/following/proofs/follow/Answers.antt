use Rattle.following.proofs.Laws.Follows.{told-list}
use Rattle.following.proofs.follow.Goals as goal

pub returns : goal.returns
returns c =
    let e = c.followed-e in
    told-list e.result.halt e.result.used e.result.records e.ensures.0 e.auto.list c.requires.1 e.ensures.1 c.told.ensures
