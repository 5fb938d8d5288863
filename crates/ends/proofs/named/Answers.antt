use Rattle.plan.proofs.Laws.Questions.{and_no, and_yes}
use borrow.Author.Tests.{le-ltb, lt-ltb}
use mathlib.Core.Path.{sym}
use Rattle.ends.proofs.named.Goals as goal

pub returns-then-n-cell : goal.returns-then-n-cell
returns-then-n-cell c = sym (and_no _ _ (le-ltb _ _ c.if-n-cell.true))

pub returns : goal.returns
returns c = sym (and_yes _ _ (lt-ltb _ _ c.if-n-cell.false))
