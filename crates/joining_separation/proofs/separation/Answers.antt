use Rattle.joining_cells.specs.Cells.{memory_of}
use Rattle.joining_separation.specs.Separation.{settled_apart}
use Rattle.joining_separation.proofs.Laws.Separation.{apart_found}
use Rattle.joining_separation.proofs.separation.Goals as goal

pub returns : goal.returns
unfolding settled_apart
returns c =
    let a = c.args in
    apart_found (memory_of a.rows.now a.marks.now) a.at a.f a.c a.hs a.allowance c.requires (cc)
