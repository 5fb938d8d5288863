use Rattle.drawing.proofs.Laws.Drawn.{lowest_start, lowest-here, lowest-later, lowest-end}
use native.Mathlib.Omega.{arith}
use Rattle.drawing.proofs.lowest.Goals as goal

pub loop-c-init : goal.loop-c-init
loop-c-init c = lowest_start _ _

pub returns-then-given-c-eq0 : goal.returns-then-given-c-eq0
returns-then-given-c-eq0 c = lowest-here c.args.given.now c.args.n c.loop-c.c c.loop-c.invariant (omega arith) c.if-given-c-eq0.true

pub loop-c-preserved : goal.loop-c-preserved
loop-c-preserved c = lowest-later c.args.given.now c.args.n c.loop-c.c c.loop-c.invariant (omega arith) c.if-given-c-eq0.false

pub returns : goal.returns
returns c = lowest-end c.args.given.now c.args.n c.loop-c.c c.loop-c.invariant (omega arith)
