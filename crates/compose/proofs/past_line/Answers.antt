use mathlib.Core.Path.{sym}
use Rattle.compose.proofs.Laws.Lines.{past_feed, past_last}
use Rattle.compose.proofs.past_line.Goals as goal

pub returns-then-end-text : goal.returns-then-end-text
returns-then-end-text c = sym (past_feed _ _ c.if-end-text.true)

pub returns : goal.returns
returns c = sym (past_last _ _ c.if-end-text.false)
