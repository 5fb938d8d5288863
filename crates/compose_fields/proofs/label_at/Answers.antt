use mathlib.Core.Path.{sym, ◌∙◌}
use native.Mathlib.Omega.{arith}
use Rattle.compose_fields.proofs.Laws.Fields.{label-left, label-other, label_short, label_open, label-closed}
use Rattle.compose_fields.proofs.label_at.Goals as goal

pub returns-then-line-at : goal.returns-then-line-at
returns-then-line-at c = label-left c.args.line.now c.args.at c.if-line-at.true (omega arith)

pub returns-then-not-begins : goal.returns-then-not-begins
returns-then-not-begins c = label-other c.args.line.now c.args.at (omega arith) (sym c.begins.ensures ∙ c.if-not-begins.true)

pub returns-then-line-start : goal.returns-then-line-start
returns-then-line-start c = label_short c.args.line.now c.args.at (omega arith) (sym c.begins.ensures ∙ c.if-not-begins.false) c.if-line-start.true

pub returns-then-line-end-ne-QUOTE : goal.returns-then-line-end-ne-QUOTE
returns-then-line-end-ne-QUOTE c = label_open c.args.line.now c.args.at (omega arith) (sym c.begins.ensures ∙ c.if-not-begins.false) (omega arith) c.if-line-end-ne-QUOTE.true

pub returns : goal.returns
returns c = label-closed c.args.line.now c.args.at (omega arith) (sym c.begins.ensures ∙ c.if-not-begins.false) (omega arith) c.if-line-end-ne-QUOTE.false
