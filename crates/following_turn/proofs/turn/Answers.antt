use Rattle.std.proofs.Common.{refl, arith}
use Rattle.following_turn.specs.Machine.{chain}
use Rattle.following_turn.proofs.Laws.Machine.{turn_close, turn_open, pass_is}
use Rattle.following_cell.proofs.Laws.Siblings.{cell_room}
use Rattle.following_turn.proofs.turn.Goals as goal

pub passed-requires : goal.passed-requires
passed-requires c =
    let p = c.requires.0 in
    record { room = omega (arith, p.many, p.some); links = cell_room (p.into (omega (arith, c.if-n-eq0.false))).cell }

pub returns-then-n-eq0-clause-list_after : goal.returns-then-n-eq0-clause-list_after
returns-then-n-eq0-clause-list_after c =
    let a = c.args in
    let p = c.requires in
    turn_close a.links.now a.kinds.now a.answers.now (chain a.path.now a.at.count) p.0.some _ c.if-n-eq0.true

pub returns-clause-list_after : goal.returns-clause-list_after
returns-clause-list_after c =
    let a = c.args in
    let p = c.requires.0 in
    let h = c.requires.1 in
    let e = c.passed.ensures in
    let g = pass_is a.links.now a.kinds.now (chain a.path.now a.at.count) p.some (omega (arith, p.many, p.some, h.nexts_long)) (omega (arith, p.many, p.some, h.times_long)) c.kind_of.ensures e.cells_after e.nexts_after e.times_after in
    turn_open a.links.now a.kinds.now a.answers.now (chain a.path.now a.at.count) p.some _ refl (omega (arith, c.if-n-eq0.false)) g c.entered.ensures.list_after
