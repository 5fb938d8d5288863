use mathlib.Core.Path.{◌∙◌}
use native.Mathlib.Omega.{arith}
use lib.ListN.{length-set}
use Prim.Native.Nat.{ℕ}
use Rattle.walk.specs.Machine.{Chart, chart_of}
use Rattle.finishing_guard.proofs.Laws.Guard.{guard_found, child_ready, tried_yes, tried_no}
use Rattle.finishing_guard.proofs.finish_joined.Goals as goal
use Rattle.finishing_guard.proofs.finish_joined.Goals.{Start}

abbrev board : Start → Chart
board s = chart_of s.args.b.now

pub guarded-requires : goal.guarded-requires
guarded-requires c =
    (c.requires.0.rows, omega (arith, c.requires.0.small, c.requires.0.marks), omega (arith, c.requires.0.smallf, c.requires.0.marks), omega (arith, c.requires.0.fits, c.from-depth.ensures, c.from-top.ensures))

pub bounds-rows-63 : goal.bounds-rows-63
bounds-rows-63 c = omega (arith, c.requires.0.rows)

pub close-requires : goal.close-requires
close-requires c =
    child_ready (board (goal.at.close-requires c).Start) c.args.level c.args.f c.args.c c.args.rows.now c.args.marks.now c.requires.0 c.requires.1 c.from-depth.ensures c.from-top.ensures (c.guarded.ensures.yes c.if-guarded.true)

pub shape_of-rows-then-guarded : goal.shape_of-rows-then-guarded
shape_of-rows-then-guarded c = c.close.auto.rows ∙ length-set {A = ℕ} c.args.rows.now 63 0

pub returns-then-guarded : goal.returns-then-guarded
returns-then-guarded c = tried_yes c.close.ensures.marks_after

pub returns : goal.returns
returns c =
    tried_no (λ g. c.guarded.ensures.no c.if-guarded.false (guard_found c.args.rows.now c.args.marks.now c.args.c c.args.f c.from-depth.ensures c.from-top.ensures g))
