use native.Mathlib.Omega.{arith}
use Rattle.mending_boxes.proofs.Laws.Code.{place-room}
use Rattle.mending_lines.proofs.Laws.Code.{lines_start, lines_next, lines_end}
use Rattle.mending_lines.proofs.put_lines.Goals as goal

pub loop-c-init : goal.loop-c-init
loop-c-init c = (omega arith, lines_start _ _)

pub record_of-requires : goal.record_of-requires
record_of-requires c = place-room c.args.form c.args.begin _ c.args.n _ c.loop-c-test.true c.requires.0 c.requires.1

pub put_alteration-next-requires : goal.put_alteration-next-requires
put_alteration-next-requires c = let t = c.loop-c-test.true in (omega (arith, t, c.requires.0), omega (arith, c.loop-c.auto.out, c.loop-c.invariant.0, t, c.requires.0, c.requires.2))

pub loop-c-preserved : goal.loop-c-preserved
loop-c-preserved c = let i = c.loop-c.invariant in let e = c.put_alteration-next.ensures in (omega (arith, i.0, e.1), lines_next _ _ i.1 c.record_of.ensures e.0)

pub returns : goal.returns
returns c = let i = c.loop-c.invariant in (lines_end _ _ _ i.1 c.loop-c.auto.c-end c.loop-c-test.false, omega (arith, c.loop-c.auto.c-end, i.0, c.loop-c-test.false))
