use Rattle.links.proofs.Laws.Build.{goes-is}
use Rattle.links.proofs.goes_on.Goals as goal

pub returns : goal.returns
returns c =
    let a = c.args in
    goes-is a.ranks.now a.s a.q c.if-s-eq0.false
