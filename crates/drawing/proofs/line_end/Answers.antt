use Rattle.drawing.proofs.Laws.Spans.{until-here, until-later, until_last, feed_yes, feed-no}
use Rattle.drawing.specs.Steps.{feed}
use mathlib.Core.Path.{◌≡◌, sym, ◌∙◌}
use lib.ListN.{length}
use native.Mathlib.Omega.{arith}
use Rattle.drawing.proofs.line_end.Goals as goal

pub returns-then-text-i-eq-LINE_FEED : goal.returns-then-text-i-eq-LINE_FEED
returns-then-text-i-eq-LINE_FEED c = (until-here feed c.args.text.now c.args.at c.loop-i.i c.loop-i.invariant (omega arith) (feed_yes _ c.if-text-i-eq-LINE_FEED.true), omega arith)

pub loop-i-preserved : goal.loop-i-preserved
loop-i-preserved c = until-later feed c.args.text.now c.args.at c.loop-i.i c.loop-i.invariant (omega arith) (feed-no _ c.if-text-i-eq-LINE_FEED.false)

pub returns : goal.returns
returns c =
    let e : c.loop-i.i ≡ length c.args.text.now = omega arith in
    (sym e ∙ until_last feed c.args.text.now c.args.at c.loop-i.i c.loop-i.invariant (omega arith), omega arith)
