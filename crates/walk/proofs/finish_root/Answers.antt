use Rattle.joining.specs.Joining.{memory_of}
use Rattle.walk.proofs.Laws.Turns.{root_found}
use Rattle.walk.proofs.finish_root.Goals as goal

pub returns : goal.returns
returns c =
    let a = c.args in
    root_found (memory_of a.rows.now a.marks.now) a.d a.w c.complete-hs.ensures.0 c.complete-hs.ensures.1 c.box_rows.ensures
