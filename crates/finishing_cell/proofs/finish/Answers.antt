use native.Mathlib.Omega.{arith}
use Rattle.walk.specs.Machine.{Chart, chart_of}
use Rattle.finishing_guard.proofs.Laws.Guard.{root_needs, finished-child, finished_root}
use Rattle.finishing_cell.proofs.finish.Goals as goal
use Rattle.finishing_cell.proofs.finish.Goals.{Start}

abbrev board : Start → Chart
board s = chart_of s.args.b.now

pub finish_last-requires : goal.finish_last-requires
finish_last-requires c =
    (omega (arith, c.requires.widths), omega (arith, c.requires.depths), c.requires.rows, c.requires.marks, root_needs (board (goal.at.finish_last-requires c).Start) c.args.level c.args.f c.args.c c.args.rows.now c.args.marks.now c.requires c.if-c-eq0.true)

pub returns-then-c-eq0 : goal.returns-then-c-eq0
returns-then-c-eq0 c =
    finished_root (board (goal.at.returns-then-c-eq0 c).Start) c.args.level c.args.f c.args.c c.args.rows.now c.args.marks.now _ _ c.if-c-eq0.true c.finish_last.ensures

pub finish_joined-requires : goal.finish_joined-requires
finish_joined-requires c = (c.requires, omega (arith, c.if-c-eq0.false))

pub returns : goal.returns
returns c =
    finished-child (board (goal.at.returns c).Start) c.args.level c.args.f c.args.c c.args.rows.now c.args.marks.now _ _ (omega (arith, c.if-c-eq0.false)) c.finish_joined.ensures
