use Rattle.drawing.proofs.Laws.Spans.{begins_short, begins-other, begins-more, begins-all}
use mathlib.Core.Path.{sym, ◌∙◌}
use native.Mathlib.Omega.{arith}
use Rattle.drawing.proofs.begins.Goals as goal

pub returns-then-text-i : goal.returns-then-text-i
returns-then-text-i c = sym (c.loop-i.invariant ∙ begins_short c.args.word.now c.args.text.now c.loop-i.i (omega arith) c.if-text-i.true)

pub returns-then-text-i-2 : goal.returns-then-text-i-2
returns-then-text-i-2 c = sym (c.loop-i.invariant ∙ begins-other c.args.word.now c.args.text.now c.loop-i.i (omega arith) (omega arith) c.if-text-i-2.true)

pub loop-i-preserved : goal.loop-i-preserved
loop-i-preserved c = c.loop-i.invariant ∙ begins-more c.args.word.now c.args.text.now c.loop-i.i (omega arith) (omega arith) c.if-text-i-2.false

pub returns : goal.returns
returns c = sym (c.loop-i.invariant ∙ begins-all c.args.word.now _ c.loop-i.i (omega arith))
