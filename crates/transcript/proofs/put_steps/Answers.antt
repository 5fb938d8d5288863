use mathlib.Core.Path.{refl}
use native.Mathlib.Omega.{arith}
use Rattle.transcript.proofs.Laws.Transcript.{put-no-steps, put_step, steps-done}
use borrow.Author.Rules.{rules}
use Rattle.transcript.proofs.put_steps.Goals as goal

pub loop-i-init : goal.loop-i-init
loop-i-init c = (refl, omega arith, put-no-steps _ c.args.list.now _)

pub bounds-list-i : goal.bounds-list-i
bounds-list-i c = omega (arith, c.requires.1.long, c.loop-i-test.true)

pub line_at-line-requires : goal.line_at-line-requires
line_at-line-requires c =
    let s = c.requires in
    (omega (arith, c.from.ensures, s.1.cells c.loop-i.i c.loop-i-test.true), s.0)

pub put_line-next-requires : goal.put_line-next-requires
put_line-next-requires c =
    let i = c.loop-i.invariant in
    let s = c.requires in
    let m = c.line_at-line.ensures.1 in
    (record { long = search rules; inside = omega (arith, m) }, omega (arith, i.0, i.1, s.1.few, s.2, m, c.loop-i-test.true))

pub loop-i-preserved : goal.loop-i-preserved
loop-i-preserved c =
    let l = c.loop-i in
    let h = c.line_at-line.ensures in
    let g = put_step _ c.args.list.now l.i c.from.result _ (omega (arith, c.requires.1.long, c.loop-i-test.true)) c.from.ensures l.invariant.2 h.0 h.1 c.put_line-next.ensures in
    (omega (arith, l.invariant.0), omega (arith, g.0, l.invariant.1), g.1)

pub returns : goal.returns
returns c =
    let i = c.loop-i.invariant in
    (steps-done _ c.args.list.now i.2 c.loop-i.auto.i-end c.loop-i-test.false, omega (arith, i.1, c.loop-i.auto.i-end, c.loop-i-test.false))
