use Rattle.joining.specs.Joining.{memory_of}
use Rattle.walk.proofs.Laws.Turns.{settle_ready, finish-found}
use Rattle.walk.proofs.finish_child.Goals as goal

pub settle-requires : goal.settle-requires
settle-requires c =
    let a = c.args in
    settle_ready (memory_of a.rows.now a.marks.now) a.at a.f a.c a.d a.w c.requires c.complete-hs.ensures.0 c.complete-hs.ensures.1

pub returns : goal.returns
returns c =
    let a = c.args in
    finish-found (memory_of a.rows.now a.marks.now) a.at a.f a.c a.d a.w a.place a.apt a.allowance c.complete-hs.ensures.0 c.complete-hs.ensures.1 c.settle.ensures
