use Prim.Native.Nat.{◌*◌}
use mathlib.Core.Path.{refl}
use Rattle.walk.specs.Machine.{Chart, chart_of}
use Rattle.walk.proofs.Laws.Turns.{child_ready, close_found}
use Rattle.walk.proofs.Laws.Stretch.{only-stretch}
use Rattle.walk.proofs.Parts.{part-seen, part-rest}
use Rattle.walk.proofs.close.Goals as goal
use Rattle.walk.proofs.close.Goals.{Start}

abbrev board : Start → Chart
board s = chart_of s.args.b.now

pub joined_rows-requires : goal.joined_rows-requires
joined_rows-requires c = let h = c.requires in (h.theirs, h.own, rw c.from-d.ensures h.small)

pub finish_child-requires : goal.finish_child-requires
finish_child-requires c =
    let a = c.args in
    let b = board (goal.at.finish_child-requires c).Start in
    child_ready b a.level a.f a.c a.rows.now a.marks.now c.requires c.from-d.ensures c.from-w.ensures refl c.from-start.ensures c.joined_rows.ensures (part-seen a.rows.now (64 * c.from-start.result) (64 * c.joined_rows.result))

pub returns : goal.returns
returns c =
    let a = c.args in
    let b = board (goal.at.returns c).Start in
    let e = close_found b a.level a.f a.c a.rows.now a.marks.now c.from-d.ensures c.from-w.ensures c.from-start.ensures c.joined_rows.ensures c.link_of-place.ensures c.link_of-apt.ensures (part-seen a.rows.now (64 * c.from-start.result) (64 * c.joined_rows.result)) c.finish_child.ensures (part-rest a.rows.now (64 * c.from-start.result) (64 * c.joined_rows.result)) refl in
    record { marks_after = e; only_stretch = only-stretch b a.level a.f a.c a.rows.now a.marks.now c.requires _ _ e }
