use Rattle.drawing.proofs.Laws.Spans.{until-here, until-later, until_last, solid_yes, solid-no}
use Rattle.drawing.specs.Steps.{solid}
use mathlib.Core.Path.{◌≡◌, sym, ◌∙◌}
use lib.ListN.{length}
use native.Mathlib.Omega.{arith}
use Rattle.drawing.proofs.blanks_end.Goals as goal

pub returns-then-not-blank : goal.returns-then-not-blank
returns-then-not-blank c = (until-here solid c.args.line.now c.args.at c.loop-i.i c.loop-i.invariant (omega arith) (solid_yes _ (sym c.blank.ensures ∙ c.if-not-blank.true)), omega arith)

pub loop-i-preserved : goal.loop-i-preserved
loop-i-preserved c = until-later solid c.args.line.now c.args.at c.loop-i.i c.loop-i.invariant (omega arith) (solid-no _ (sym c.blank.ensures ∙ c.if-not-blank.false))

pub returns : goal.returns
returns c =
    let e : c.loop-i.i ≡ length c.args.line.now = omega arith in
    (sym e ∙ until_last solid c.args.line.now c.args.at c.loop-i.i c.loop-i.invariant (omega arith), omega arith)
