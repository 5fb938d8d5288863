use Rattle.spans.proofs.Laying.{or_none-is}
use Rattle.spans.proofs.size_at.Goals as goal

pub returns : goal.returns
returns c =
    let a = c.args in
    or_none-is a.size.now a.s c.if-s-eq0.false
