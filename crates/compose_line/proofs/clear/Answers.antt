use mathlib.Core.Path.{sym, ◌∙◌}
use Rattle.compose_line.proofs.Laws.Lines.{clear-strange, clear-over, clear-so}
use Rattle.compose_line.proofs.clear.Goals as goal

pub returns-then-not-letters_printable : goal.returns-then-not-letters_printable
returns-then-not-letters_printable c = clear-strange c.args.line.now (sym c.letters_printable.ensures ∙ c.if-not-letters_printable.true)

pub returns-then-line-gt255 : goal.returns-then-line-gt255
returns-then-line-gt255 c = clear-over c.args.line.now (sym c.letters_printable.ensures ∙ c.if-not-letters_printable.false) c.if-line-gt255.true

pub returns : goal.returns
returns c = clear-so c.args.line.now (sym c.letters_printable.ensures ∙ c.if-not-letters_printable.false) c.if-line-gt255.false
