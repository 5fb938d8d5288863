use Rattle.std.proofs.Common.{arith}
use Rattle.following_turn.proofs.Laws.Machine.{frames_push}
use Rattle.following_turn.proofs.pushed.Goals as goal

pub returns-clause-count_after : goal.returns-clause-count_after
returns-clause-count_after c =
    let a = c.args in
    let h = c.requires.1 in
    frames_push a.path.now.cells a.path.now.nexts a.path.now.times a.count a.s a.next a.often (omega (arith, c.requires.0, h.cells_long)) (omega (arith, c.requires.0, h.nexts_long)) (omega (arith, c.requires.0, h.times_long))
