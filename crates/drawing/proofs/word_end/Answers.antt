use Rattle.drawing_spec.specs.Words.{blank}
use Rattle.drawing.proofs.Laws.Spans.{until-here, until-later, until_last}
use mathlib.Core.Path.{◌≡◌, sym, ◌∙◌}
use lib.ListN.{length}
use native.Mathlib.Omega.{arith}
use Rattle.drawing.proofs.word_end.Goals as goal

pub returns-then-blank : goal.returns-then-blank
returns-then-blank c = (until-here blank c.args.line.now c.args.at c.loop-i.i c.loop-i.invariant (omega arith) (sym c.blank.ensures ∙ c.if-blank.true), omega arith)

pub loop-i-preserved : goal.loop-i-preserved
loop-i-preserved c = until-later blank c.args.line.now c.args.at c.loop-i.i c.loop-i.invariant (omega arith) (sym c.blank.ensures ∙ c.if-blank.false)

pub returns : goal.returns
returns c =
    let e : c.loop-i.i ≡ length c.args.line.now = omega arith in
    (sym e ∙ until_last blank c.args.line.now c.args.at c.loop-i.i c.loop-i.invariant (omega arith), omega arith)
