use mathlib.Core.Path.{refl}
use Rattle.joining.proofs.Laws.Joining.{later-found}
use Rattle.joining.proofs.settle_later.Goals as goal

pub returns : goal.returns
returns c =
    let a = c.args in
    later-found a.rows.now a.marks.now a.at a.f a.c a.hs a.beyond a.allowance c.separation-g.ensures.0 c.mark_of.ensures c.mark_of-hf.ensures refl c.mark_of-2.ensures c.join_side-past.ensures.0 c.join_side-past.ensures.1 c.mark_of-r.ensures c.note.ensures c.max.ensures c.put_marks.ensures
