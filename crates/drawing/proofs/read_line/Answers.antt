use mathlib.Core.Path.{sym, ◌∙◌}
use Rattle.drawing.proofs.Laws.Lines.{line_pass, line-unread, line-gives}
use Rattle.drawing.proofs.read_line.Goals as goal

pub returns-then-passes : goal.returns-then-passes
returns-then-passes c = line_pass c.args.line.now c.args.k _ c.next_word-first.ensures (sym c.passes.ensures ∙ c.if-passes.true)

pub returns-in-Some : goal.returns-in-Some
returns-in-Some c = line-gives c.args.line.now c.args.k _ c.next_word-first.ensures (sym c.passes.ensures ∙ c.if-passes.false) _ c.in-Some.ensures

pub returns-in-None : goal.returns-in-None
returns-in-None c = line-unread c.args.line.now c.args.k _ c.next_word-first.ensures (sym c.passes.ensures ∙ c.if-passes.false) c.in-None.ensures
