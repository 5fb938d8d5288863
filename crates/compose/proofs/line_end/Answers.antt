use mathlib.Core.Path.{◌≡◌, sym, ◌∙◌}
use lib.ListN.{length}
use native.Mathlib.Omega.{arith}
use Rattle.compose.proofs.Laws.Lines.{end-here, end_later, end_last}
use Rattle.compose.proofs.line_end.Goals as goal

pub returns-then-text-i-eq10 : goal.returns-then-text-i-eq10
returns-then-text-i-eq10 c = (end-here c.args.text.now c.args.at c.loop-i.i c.loop-i.invariant c.loop-i-test.true c.if-text-i-eq10.true, omega arith)

pub loop-i-preserved : goal.loop-i-preserved
loop-i-preserved c = end_later c.args.text.now c.args.at c.loop-i.i c.loop-i.invariant c.loop-i-test.true c.if-text-i-eq10.false

pub returns : goal.returns
returns c =
    let e : c.loop-i.i ≡ length c.args.text.now = omega arith in
    (sym e ∙ end_last c.args.text.now c.args.at c.loop-i.i c.loop-i.invariant (omega arith), omega arith)
